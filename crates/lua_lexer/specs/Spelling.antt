-- Which tokens a text spells (Lua 5.4 manual, section 3.1).
use Rattle.std.specs.Prelude.{◌≡◌, ℕ, ◌+◌, ◌≤◌, Bool, false, ◌&&◌, ◌||◌, not, List, [], ◌∷◌, ◌++◌, length, IsTrue, IsFalse, ◌==◌, ◌⊎◌}
use Rattle.std.specs.List.{list_all, flat_map}
use Rattle.lua_lexer.specs.declared.token.Token.{Token}
use Rattle.lua_lexer.specs.declared.token.TokenKind.{TokenKind}
use Rattle.lua_lexer.specs.declared.token.TokenKind.TheVariants as kinds
use Rattle.lua_lexer.specs.declared.vocabulary.Symbol.{Symbol}
use Rattle.lua_lexer.specs.declared.vocabulary.Symbol.TheVariants as symbols
use Rattle.lua_names.specs.Keywords.{keyword_bytes}
use Rattle.lua_names.specs.Names.{is_digit, is_name}
use Rattle.lua_lexer.specs.Alphabet.{is_space, is_line_break, is_numeral_byte, is_hexadecimal, value, begins_with}
use Rattle.lua_lexer.specs.Vocabulary.{symbol_bytes}
use Rattle.lua_lexer.specs.QuotedText.{IsQuoted, ends_line}
use Rattle.lua_lexer.specs.LongBracket.{long_text, IsBracket, Opens}
use Rattle.lua_lexer.specs.Turns.{InTurn}
use Rattle.lua_lexer.specs.declared.numeral.TheConstants.{GREATEST}
use Rattle.lua_lexer.specs.declared.lexer.TheConstants.{LONGEST}

-- ---- numerals

-- begins with a digit, or with `.` and a digit
abbrev pub begins_numeral : List ℕ → Bool
begins_numeral [] = false
begins_numeral (b ∷ bs) = is_digit b || (b == 46 && begins_with is_digit bs)

-- letters, digits, `_` and `.` that begin so
abbrev pub IsNumeral : List ℕ → Type 0
IsNumeral bytes = IsTrue (begins_numeral bytes) × IsTrue (list_all is_numeral_byte bytes)

-- decimal digits alone
abbrev pub IsDecimal : ℕ → List ℕ → Type 0
IsDecimal n bytes = IsTrue (begins_with is_digit bytes) × IsTrue (list_all is_digit bytes) × (n ≡ value 10 bytes)

-- `0x` or `0X` and hexadecimal digits alone, at least one
abbrev pub IsHexadecimal : ℕ → List ℕ → Type 0
IsHexadecimal n bytes =
    (x : ℕ) × (digits : List ℕ) × (bytes ≡ 48 ∷ x ∷ digits) × IsTrue (x == 120 || x == 88)
    × IsTrue (begins_with is_hexadecimal digits) × IsTrue (list_all is_hexadecimal digits) × (n ≡ value 16 digits)

abbrev pub IsInteger : ℕ → List ℕ → Type 0
IsInteger n bytes = IsDecimal n bytes ⊎ IsHexadecimal n bytes

-- ---- tokens

-- `[` doesn't fit right before `[` or `=`, nor `-` right before `-`
abbrev pub StandsBefore : Symbol → List ℕ → Type 0
StandsBefore symbols.OpenBracket after = IsFalse (begins_with (λ b. b == 91 || b == 61) after)
StandsBefore symbols.Minus after = IsFalse (begins_with (λ b. b == 45) after)
StandsBefore _ after = Unit {0}

-- these bytes before what comes after them spell this token
abbrev pub SpellsToken : TokenKind → List ℕ → List ℕ → Type 0
SpellsToken (kinds.Name name) bytes after = (bytes ≡ name) × IsTrue (is_name bytes)
SpellsToken (kinds.Keyword keyword) bytes after = bytes ≡ keyword_bytes keyword
SpellsToken (kinds.Symbol symbol) bytes after = (bytes ≡ symbol_bytes symbol) × StandsBefore symbol after
SpellsToken (kinds.Text text) bytes after = IsQuoted text bytes ⊎ ((body : List ℕ) × (text ≡ long_text body) × IsBracket body bytes after)
SpellsToken (kinds.Int n) bytes after = IsInteger n bytes × (n ≤ GREATEST)
SpellsToken kinds.End bytes after = ⊥

-- the bytes are a numeral, whether it is an integer or not, or spell some token
abbrev pub FitsSome : List ℕ → List ℕ → Type 0
FitsSome bytes after = IsNumeral bytes ⊎ ((kind : TokenKind) × SpellsToken kind bytes after)

-- no longer front of the rest fits
abbrev pub IsLongest : List ℕ → List ℕ → Type 0
IsLongest bytes after = (more rest : List ℕ) → after ≡ more ++ rest → FitsSome (bytes ++ more) rest → more ≡ []

-- ---- comments and white space

-- `--` up to a line break or the end, where no long bracket opens right after `--`
pub record IsShortComment (bytes after : List ℕ) : Type 0 where
  pub line : List ℕ
  pub spelled : bytes ≡ 45 ∷ 45 ∷ line
  pub in_line : IsTrue (list_all (λ b. not (is_line_break b)) line)
  pub ended : IsTrue (ends_line after)
  pub short : Opens (line ++ after) → ⊥

-- `--` and a long bracket
pub record IsLongComment (bytes after : List ℕ) : Type 0 where
  pub body : List ℕ
  pub bracket_bytes : List ℕ
  pub spelled : bytes ≡ 45 ∷ 45 ∷ bracket_bytes
  pub bracket : IsBracket body bracket_bytes after

-- one byte of white space, or a comment
abbrev pub IsGap : List ℕ → List ℕ → Type 0
IsGap bytes after = ((b : ℕ) × (bytes ≡ b ∷ []) × IsTrue (is_space b)) ⊎ (IsShortComment bytes after ⊎ IsLongComment bytes after)

-- ---- texts

-- what a text consists of: gaps and the spellings of tokens
pub data Element : Type 0 where
  Gap : List ℕ → Element
  Spelled : TokenKind → List ℕ → Element

abbrev pub element_bytes : Element → List ℕ
element_bytes (Gap bytes) = bytes
element_bytes (Spelled kind bytes) = bytes

abbrev pub FitsElement : Element → List ℕ → Type 0
FitsElement (Gap bytes) after = IsGap bytes after
FitsElement (Spelled kind bytes) after = SpellsToken kind bytes after × IsLongest bytes after

-- the tokens among the elements with their places, the first element standing at this place; then the end
abbrev pub tokens_from : ℕ → List Element → List Token
tokens_from place [] = record { place = place; kind = kinds.End } ∷ []
tokens_from place (Gap bytes ∷ elements) = tokens_from (place + length bytes) elements
tokens_from place (Spelled kind bytes ∷ elements) = record { place = place; kind = kind } ∷ tokens_from (place + length bytes) elements

-- The text spells these tokens: it is at most 8,388,608 bytes long, and white space, comments and spellings
-- in turn, each spelling the longest that fits.
pub record Spells (text : List ℕ) (tokens : List Token) : Type 0 where
  pub short : length text ≤ LONGEST
  pub elements : List Element
  pub spelled : text ≡ flat_map element_bytes elements
  pub in_turn : InTurn element_bytes FitsElement elements []
  pub in_place : tokens ≡ tokens_from 0 elements
