-- Which fault a text has that spells no tokens: that of the first token that can't be read. The faults are
-- this project's own.
use Rattle.std.specs.Prelude.{◌≡◌, ℕ, ◌+◌, ◌≤◌, ◌<◌, List, [], ◌∷◌, ◌++◌, length, IsTrue, IsFalse, ◌⊎◌}
use Rattle.std.specs.List.{flat_map}
use Rattle.lua_lexer.specs.declared.fault.LexFault.{LexFault}
use Rattle.lua_lexer.specs.declared.fault.LexFault.TheVariants as faults
use Rattle.lua_lexer.specs.declared.token.TokenKind.{TokenKind}
use Rattle.lua_lexer.specs.Alphabet.{is_space}
use Rattle.lua_lexer.specs.QuotedText.{FailsToClose, ends_line}
use Rattle.lua_lexer.specs.LongBracket.{Opens, StaysOpen}
use Rattle.lua_lexer.specs.Spelling.{Element, element_bytes, FitsElement, IsNumeral, IsInteger, SpellsToken}
use Rattle.lua_lexer.specs.Turns.{InTurn}
use Rattle.lua_lexer.specs.declared.numeral.TheConstants.{GREATEST}
use Rattle.lua_lexer.specs.declared.lexer.TheConstants.{LONGEST}

-- the byte is no white space, and no token's spelling begins with it
abbrev pub BeginsNothing : ℕ → Type 0
BeginsNothing b = IsFalse (is_space b) × ((kind : TokenKind) (more after : List ℕ) → SpellsToken kind (b ∷ more) after → ⊥)

-- a byte that begins no token, or a `[` and `=` that open no long bracket
abbrev pub HasBadByte : List ℕ → Type 0
HasBadByte rest =
    ((b : ℕ) × (more : List ℕ) × (rest ≡ b ∷ more) × BeginsNothing b)
    ⊎ ((more : List ℕ) × (rest ≡ 91 ∷ 61 ∷ more) × (Opens rest → ⊥))

-- a long bracket without close, or a comment that is one
abbrev pub HasOpenBracket : List ℕ → Type 0
HasOpenBracket rest = StaysOpen rest ⊎ ((bracket : List ℕ) × (rest ≡ 45 ∷ 45 ∷ bracket) × StaysOpen bracket)

-- the numeral at the front, taken to its last letter, digit, `_` or `.`
pub record HasNumeral (rest bytes : List ℕ) : Type 0 where
  pub after : List ℕ
  pub spelled : rest ≡ bytes ++ after
  pub numeral : IsNumeral bytes
  pub longest : (more others : List ℕ) → after ≡ more ++ others → IsNumeral (bytes ++ more) → more ≡ []

-- the fault of the token at the front of the rest, and how many bytes behind that front it lies
abbrev pub Fails : LexFault → List ℕ → ℕ → Type 0
Fails (faults.BadByte _) rest behind = HasBadByte rest × (behind ≡ 0)
Fails (faults.OpenString _) rest behind = (front failed : List ℕ) × (at : ℕ) × FailsToClose rest front failed at × IsTrue (ends_line failed) × (behind ≡ 0)
Fails (faults.OpenBracket _) rest behind = HasOpenBracket rest × (behind ≡ 0)
Fails (faults.BadEscape _) rest behind = (front failed : List ℕ) × FailsToClose rest front failed behind × IsFalse (ends_line failed)
Fails (faults.BadNumeral _) rest behind = (bytes : List ℕ) × HasNumeral rest bytes × ((n : ℕ) → IsInteger n bytes → ⊥) × (behind ≡ 0)
Fails (faults.NumberTooLarge _) rest behind = (bytes : List ℕ) × HasNumeral rest bytes × (n : ℕ) × IsInteger n bytes × (GREATEST < n) × (behind ≡ 0)
Fails (faults.TooLong _) rest behind = ⊥
Fails faults.NoMemory rest behind = ⊥

-- The text is short enough, gaps and tokens can be read up to some rest, and there this fault lies.
pub record FailsAt (text : List ℕ) (fault : LexFault) (place : ℕ) : Type 0 where
  pub short : length text ≤ LONGEST
  pub elements : List Element
  pub rest : List ℕ
  pub behind : ℕ
  pub read : text ≡ flat_map element_bytes elements ++ rest
  pub in_turn : InTurn element_bytes FitsElement elements rest
  pub fails : Fails fault rest behind
  pub place_is : place ≡ length (flat_map element_bytes elements) + behind

-- the fault of a text; a text that is too long has that fault and no other
abbrev pub HasFault : List ℕ → LexFault → Type 0
HasFault text (faults.TooLong n) = (LONGEST < length text) × (n ≡ length text)
HasFault text (faults.BadByte place) = FailsAt text (faults.BadByte place) place
HasFault text (faults.OpenString place) = FailsAt text (faults.OpenString place) place
HasFault text (faults.OpenBracket place) = FailsAt text (faults.OpenBracket place) place
HasFault text (faults.BadEscape place) = FailsAt text (faults.BadEscape place) place
HasFault text (faults.BadNumeral place) = FailsAt text (faults.BadNumeral place) place
HasFault text (faults.NumberTooLarge place) = FailsAt text (faults.NumberTooLarge place) place
HasFault text faults.NoMemory = ⊥
