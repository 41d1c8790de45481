-- What the first two bytes announce fits, and nothing else does.
use Rattle.std.proofs.Common.{◌≡◌, ℕ, zero, suc, Bool, true, false, cond, ◌&&◌, List, [], ◌∷◌, ◌++◌, refl, sym, ap, subst, ◌∙◌, append_assoc, arith, inl, inr}
use Rattle.std.specs.Prelude.{◌⊎◌, ◌==◌}
use Rattle.std.specs.List.{flat_map}
use Rattle.std.proofs.lemmas.Bool.{eqb-true}
use Rattle.std.proofs.lemmas.Bool.Decides.{nat_tests}
use Rattle.lua_lexer.specs.declared.element.Lexeme.{Lexeme}
use Rattle.lua_lexer.specs.declared.element.Lexeme.TheVariants as lexemes
use Rattle.lua_lexer.specs.declared.token.TokenKind.TheVariants as kinds
use Rattle.lua_lexer.specs.declared.vocabulary.Symbol.{Symbol}
use Rattle.lua_lexer.specs.declared.vocabulary.Symbol.TheVariants.{Plus, Minus, Star, Slash, Percent, Caret, Hash, Amp, Tilde, Bar, ShiftLeft, ShiftRight, DoubleSlash, Equal, NotEqual, LessEqual, GreaterEqual, Less, Greater, Assign, OpenParen, CloseParen, OpenBrace, CloseBrace, OpenBracket, CloseBracket, DoubleColon, Semicolon, Colon, Comma, Dot, Concat, Dots}
use Rattle.lua_names.specs.Names.{is_digit, is_name_start}
use Rattle.lua_lexer.specs.Alphabet.{is_space, is_quote, begins_with}
use Rattle.lua_lexer.specs.Vocabulary.{symbol_bytes}
use Rattle.lua_lexer.specs.QuotedText.{piece_bytes, IsQuoted}
use Rattle.lua_lexer.specs.LongBracket.{opening, closing, IsBracket}
use Rattle.lua_lexer.specs.Spelling.{IsNumeral, StandsBefore, FitsSome}
use Rattle.lua_lexer.specs.Reading.{lexeme_of, begins_bracket}
use Rattle.lua_lexer.proofs.Choices.{or_cases, and_cases}
use Rattle.lua_lexer.proofs.Words.{IsWord, name_is_word, keyword_word}
use Rattle.lua_lexer.proofs.Integers.{integer_numeral}

-- what may fit where this is announced
abbrev pub Announced : Lexeme → List ℕ → List ℕ → Type 0
Announced lexemes.Space bytes after = ⊥
Announced lexemes.Comment bytes after = ⊥
Announced lexemes.Word bytes after = IsWord bytes
Announced lexemes.Numeral bytes after = IsNumeral bytes ⊎ (bytes ≡ 46 ∷ [])
Announced lexemes.Quoted bytes after = (text : List ℕ) × IsQuoted text bytes
Announced lexemes.Bracket bytes after = (body : List ℕ) × IsBracket body bytes after
Announced lexemes.Symbol bytes after = (symbol : Symbol) × (bytes ≡ symbol_bytes symbol) × StandsBefore symbol after

unfoldable pub front_lexeme : List ℕ → Lexeme
front_lexeme [] = lexemes.Symbol
front_lexeme (b ∷ rest) = lexeme_of b rest

-- ---- what is announced, by the first byte

name_no_space : (b : ℕ) → is_name_start b ≡ true → is_space b ≡ false
name_no_space b e = grind (arith, nat_tests)

digit_no_space : (b : ℕ) → is_digit b ≡ true → is_space b ≡ false
digit_no_space b e = grind (arith, nat_tests)

digit_no_name : (b : ℕ) → is_digit b ≡ true → is_name_start b ≡ false
digit_no_name b e = grind (arith, nat_tests)

quote_no_space : (b : ℕ) → is_quote b ≡ true → is_space b ≡ false
quote_no_space b e = grind (arith, nat_tests)

quote_no_name : (b : ℕ) → is_quote b ≡ true → is_name_start b ≡ false
quote_no_name b e = grind (arith, nat_tests)

quote_no_digit : (b : ℕ) → is_quote b ≡ true → is_digit b ≡ false
quote_no_digit b e = grind (arith, nat_tests)

pub word_lexeme : (b : ℕ) (rest : List ℕ) → is_name_start b ≡ true → lexeme_of b rest ≡ lexemes.Word
unfolding lexeme_of
word_lexeme b rest e = rw (name_no_space b e, e) refl

pub digit_lexeme : (b : ℕ) (rest : List ℕ) → is_digit b ≡ true → lexeme_of b rest ≡ lexemes.Numeral
unfolding lexeme_of
digit_lexeme b rest e = rw (digit_no_space b e, digit_no_name b e, e) refl

pub quote_lexeme : (b : ℕ) (rest : List ℕ) → is_quote b ≡ true → lexeme_of b rest ≡ lexemes.Quoted
unfolding lexeme_of
quote_lexeme b rest e = rw (quote_no_space b e, quote_no_name b e, quote_no_digit b e, e) refl

pub dot_lexeme : (rest : List ℕ) → begins_with is_digit rest ≡ true → lexeme_of 46 rest ≡ lexemes.Numeral
unfolding lexeme_of
dot_lexeme rest e = rw e refl

-- ---- each that fits

word_announced : (bytes after : List ℕ) → IsWord bytes → Announced (front_lexeme (bytes ++ after)) bytes after
unfolding front_lexeme
word_announced [] after is = absurd (let h : false ≡ true = is.0 in cc)
word_announced (b ∷ bs) after is = subst (λ (l : Lexeme). Announced l (b ∷ bs) after) (sym (word_lexeme b (bs ++ after) is.0)) is

digits_go_on : (bs after : List ℕ) → begins_with is_digit bs ≡ true → begins_with is_digit (bs ++ after) ≡ true
digits_go_on [] after e = absurd (let h : false ≡ true = e in cc)
digits_go_on (b ∷ bs) after e = e

numeral_announced : (bytes after : List ℕ) → IsNumeral bytes → Announced (front_lexeme (bytes ++ after)) bytes after
unfolding front_lexeme
numeral_announced [] after is = absurd (let h : false ≡ true = is.0 in cc)
numeral_announced (b ∷ bs) after is = elim (or_cases (is_digit b) (b == 46 && begins_with is_digit bs) is.0) [
  | inl d ↦ subst (λ (l : Lexeme). Announced l (b ∷ bs) after) (sym (digit_lexeme b (bs ++ after) d)) (inl is)
  | inr p ↦
      let both = and_cases (b == 46) (begins_with is_digit bs) p in
      let here : lexeme_of b (bs ++ after) ≡ lexemes.Numeral = ap (λ (c : ℕ). lexeme_of c (bs ++ after)) (eqb-true b 46 both.0) ∙ dot_lexeme (bs ++ after) (digits_go_on bs after both.1) in
      subst (λ (l : Lexeme). Announced l (b ∷ bs) after) (sym here) (inl is)
]

quoted_announced : (text bytes after : List ℕ) → IsQuoted text bytes → Announced (front_lexeme (bytes ++ after)) bytes after
unfolding front_lexeme
quoted_announced text bytes after is =
    let tail : List ℕ = flat_map piece_bytes is.pieces ++ is.quote ∷ [] in
    subst (λ (l : List ℕ). Announced (front_lexeme (l ++ after)) bytes after) (sym is.spelled)
    (subst (λ (l : Lexeme). Announced l bytes after) (sym (quote_lexeme is.quote (tail ++ after) is.is_quote)) (text, is))

pub opening_lexeme : (level : ℕ) (rest : List ℕ) → front_lexeme (opening level ++ rest) ≡ lexemes.Bracket
unfolding front_lexeme lexeme_of
opening_lexeme zero rest = refl
opening_lexeme (suc level) rest = refl

bracket_announced : (body bytes after : List ℕ) → IsBracket body bytes after → Announced (front_lexeme (bytes ++ after)) bytes after
bracket_announced body bytes after is =
    let here : front_lexeme (bytes ++ after) ≡ lexemes.Bracket = ap (λ (l : List ℕ). front_lexeme (l ++ after)) is.spelled ∙ ap front_lexeme (append_assoc (opening is.level) (body ++ closing is.level) after) ∙ opening_lexeme is.level ((body ++ closing is.level) ++ after) in
    subst (λ (l : Lexeme). Announced l bytes after) (sym here) (body, is)

at_dot : (after : List ℕ) (t : Bool) → Announced (cond t lexemes.Numeral lexemes.Symbol) (46 ∷ []) after
at_dot after true = inr refl
at_dot after false = (Dot, refl, tt)

at_minus : (after : List ℕ) (t : Bool) → begins_with (λ b. b == 45) after ≡ t → t ≡ false → Announced (cond t lexemes.Comment lexemes.Symbol) (45 ∷ []) after
at_minus after true e f = absurd cc
at_minus after false e f = (Minus, refl, e)

at_open : (after : List ℕ) (t : Bool) → begins_bracket after ≡ t → t ≡ false → Announced (cond t lexemes.Bracket lexemes.Symbol) (91 ∷ []) after
at_open after true e f = absurd cc
at_open after false e f = (OpenBracket, refl, e)

symbol_announced : (symbol : Symbol) (after : List ℕ) → StandsBefore symbol after → Announced (front_lexeme (symbol_bytes symbol ++ after)) (symbol_bytes symbol) after
unfolding front_lexeme lexeme_of
symbol_announced Plus after stands = (Plus, refl, tt)
symbol_announced Minus after stands = at_minus after (begins_with (λ b. b == 45) after) refl stands
symbol_announced Star after stands = (Star, refl, tt)
symbol_announced Slash after stands = (Slash, refl, tt)
symbol_announced Percent after stands = (Percent, refl, tt)
symbol_announced Caret after stands = (Caret, refl, tt)
symbol_announced Hash after stands = (Hash, refl, tt)
symbol_announced Amp after stands = (Amp, refl, tt)
symbol_announced Tilde after stands = (Tilde, refl, tt)
symbol_announced Bar after stands = (Bar, refl, tt)
symbol_announced ShiftLeft after stands = (ShiftLeft, refl, tt)
symbol_announced ShiftRight after stands = (ShiftRight, refl, tt)
symbol_announced DoubleSlash after stands = (DoubleSlash, refl, tt)
symbol_announced Equal after stands = (Equal, refl, tt)
symbol_announced NotEqual after stands = (NotEqual, refl, tt)
symbol_announced LessEqual after stands = (LessEqual, refl, tt)
symbol_announced GreaterEqual after stands = (GreaterEqual, refl, tt)
symbol_announced Less after stands = (Less, refl, tt)
symbol_announced Greater after stands = (Greater, refl, tt)
symbol_announced Assign after stands = (Assign, refl, tt)
symbol_announced OpenParen after stands = (OpenParen, refl, tt)
symbol_announced CloseParen after stands = (CloseParen, refl, tt)
symbol_announced OpenBrace after stands = (OpenBrace, refl, tt)
symbol_announced CloseBrace after stands = (CloseBrace, refl, tt)
symbol_announced OpenBracket after stands = at_open after (begins_bracket after) refl stands
symbol_announced CloseBracket after stands = (CloseBracket, refl, tt)
symbol_announced DoubleColon after stands = (DoubleColon, refl, tt)
symbol_announced Semicolon after stands = (Semicolon, refl, tt)
symbol_announced Colon after stands = (Colon, refl, tt)
symbol_announced Comma after stands = (Comma, refl, tt)
symbol_announced Dot after stands = at_dot after (begins_with is_digit after)
symbol_announced Concat after stands = (Concat, refl, tt)
symbol_announced Dots after stands = (Dots, refl, tt)

pub announced : (bytes after : List ℕ) → FitsSome bytes after → Announced (front_lexeme (bytes ++ after)) bytes after
announced bytes after (inl numeral) = numeral_announced bytes after numeral
announced bytes after (inr (kinds.Name name, spells)) = word_announced bytes after (name_is_word bytes spells.1)
announced bytes after (inr (kinds.Keyword keyword, spells)) = word_announced bytes after (keyword_word bytes keyword spells)
announced bytes after (inr (kinds.Symbol symbol, spells)) = subst (λ (l : List ℕ). Announced (front_lexeme (l ++ after)) l after) (sym spells.0) (symbol_announced symbol after spells.1)
announced bytes after (inr (kinds.Text text, inl quoted)) = quoted_announced text bytes after quoted
announced bytes after (inr (kinds.Text text, inr bracket)) = bracket_announced bracket.0 bytes after bracket.2
announced bytes after (inr (kinds.Int n, spells)) = numeral_announced bytes after (integer_numeral n bytes spells.0)
announced bytes after (inr (kinds.End, spells)) = absurd spells

-- a symbol is announced, but for a `.` before a digit
pub symbol_lexeme : (symbol : Symbol) (after : List ℕ) → StandsBefore symbol after → (symbol ≡ Dot → begins_with is_digit after ≡ false) → front_lexeme (symbol_bytes symbol ++ after) ≡ lexemes.Symbol
unfolding front_lexeme lexeme_of
symbol_lexeme Plus after stands dot = refl
symbol_lexeme Minus after stands dot = ap (λ (t : Bool). cond t lexemes.Comment lexemes.Symbol) stands
symbol_lexeme Star after stands dot = refl
symbol_lexeme Slash after stands dot = refl
symbol_lexeme Percent after stands dot = refl
symbol_lexeme Caret after stands dot = refl
symbol_lexeme Hash after stands dot = refl
symbol_lexeme Amp after stands dot = refl
symbol_lexeme Tilde after stands dot = refl
symbol_lexeme Bar after stands dot = refl
symbol_lexeme ShiftLeft after stands dot = refl
symbol_lexeme ShiftRight after stands dot = refl
symbol_lexeme DoubleSlash after stands dot = refl
symbol_lexeme Equal after stands dot = refl
symbol_lexeme NotEqual after stands dot = refl
symbol_lexeme LessEqual after stands dot = refl
symbol_lexeme GreaterEqual after stands dot = refl
symbol_lexeme Less after stands dot = refl
symbol_lexeme Greater after stands dot = refl
symbol_lexeme Assign after stands dot = refl
symbol_lexeme OpenParen after stands dot = refl
symbol_lexeme CloseParen after stands dot = refl
symbol_lexeme OpenBrace after stands dot = refl
symbol_lexeme CloseBrace after stands dot = refl
symbol_lexeme OpenBracket after stands dot = ap (λ (t : Bool). cond t lexemes.Bracket lexemes.Symbol) stands
symbol_lexeme CloseBracket after stands dot = refl
symbol_lexeme DoubleColon after stands dot = refl
symbol_lexeme Semicolon after stands dot = refl
symbol_lexeme Colon after stands dot = refl
symbol_lexeme Comma after stands dot = refl
symbol_lexeme Dot after stands dot = ap (λ (t : Bool). cond t lexemes.Numeral lexemes.Symbol) (dot refl)
symbol_lexeme Concat after stands dot = refl
symbol_lexeme Dots after stands dot = refl
