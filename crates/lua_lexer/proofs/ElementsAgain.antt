-- Gaps and tokens that stand somewhere are read there.
use Rattle.std.proofs.Common.{◌≡◌, ℕ, suc, ◌≤◌, Bool, true, false, ◌&&◌, List, [], ◌∷◌, ◌++◌, length, Option, Some, None, Ok, refl, sym, ap, subst, ◌∙◌, append_assoc, length-append, arith, inl, inr}
use Rattle.std.specs.Prelude.{◌==◌, ◌||◌}
use Rattle.std.specs.List.{list_all, flat_map}
use Rattle.std.proofs.lemmas.Bool.{eqb-true}
use Rattle.std.proofs.lemmas.Bool.Decides.{nat_tests}
use Rattle.std.proofs.lemmas.List.{append_cancel_right}
use Rattle.lua_lexer.specs.declared.element.Lexeme.{Lexeme}
use Rattle.lua_lexer.specs.declared.element.Lexeme.TheVariants as lexemes
use Rattle.lua_lexer.specs.declared.stop.Cause.TheVariants as causes
use Rattle.lua_lexer.specs.declared.token.TokenKind.TheVariants as kinds
use Rattle.lua_lexer.specs.declared.vocabulary.Symbol.{Symbol}
use Rattle.lua_lexer.specs.declared.vocabulary.Symbol.TheVariants.{Dot, Minus, OpenBracket}
use Rattle.lua_names.specs.Names.{is_digit, is_name_start, is_name_byte}
use Rattle.lua_lexer.specs.Alphabet.{is_space, is_numeral_byte, begins_with}
use Rattle.lua_lexer.specs.Vocabulary.{symbol_bytes}
use Rattle.lua_lexer.specs.QuotedText.{piece_bytes, IsQuoted}
use Rattle.lua_lexer.specs.LongBracket.{opening, closing, long_text, IsBracket}
use Rattle.lua_lexer.specs.Spelling.{IsNumeral, begins_numeral, IsInteger, StandsBefore, FitsSome, IsLongest, Element, Gap, Spelled, element_bytes, FitsElement}
use Rattle.lua_names.specs.Keywords.{keyword_of}
use Rattle.lua_lexer.specs.Reading.{Outcome, then_with, or_cause, greatest, after_run, word_kind, word_at, symbol_at, integer_of, numeral_at, bracket_at, comment_at, quoted_at, lexeme_of, Read, symbol_by, lexeme_at, element_at}
use Rattle.lua_lexer.proofs.Choices.{or_cases, and_cases, and_both}
use Rattle.lua_lexer.proofs.Runs.{run_is}
use Rattle.lua_lexer.proofs.Appended.{append_after, fronts}
use Rattle.lua_names.proofs.KeywordTable.{keyword_again}
use Rattle.lua_lexer.proofs.Words.{IsWord, word_spells, name_again, name_is_word, keyword_word}
use Rattle.lua_lexer.proofs.Symbols.{symbol_sound, symbol_reaches, symbol_begins, symbol_one}
use Rattle.lua_lexer.proofs.Integers.{integer_again, integer_numeral}
use Rattle.lua_lexer.proofs.Escapes.{within_some}
use Rattle.lua_lexer.proofs.QuotedTexts.{quoted_again}
use Rattle.lua_lexer.proofs.BracketTexts.{bracket_again, short_again, long_again}
use Rattle.lua_lexer.proofs.Announcements.{front_lexeme, word_lexeme, digit_lexeme, quote_lexeme, dot_lexeme, opening_lexeme, symbol_lexeme}
use Rattle.lua_lexer.proofs.Elements.{kind_in, front_here, or_left}

-- what the lexeme says, at the bytes
abbrev pub lexeme_on : Lexeme → List ℕ → Read
lexeme_on lexeme [] = Ok (None, [])
lexeme_on lexeme (b ∷ rest) = lexeme_at lexeme b rest

pub element_on : (bytes : List ℕ) → element_at bytes ≡ lexeme_on (front_lexeme bytes) bytes
unfolding element_at front_lexeme
element_on [] = refl
element_on (b ∷ rest) = refl

pub element_as : (bytes : List ℕ) (lexeme : Lexeme) → front_lexeme bytes ≡ lexeme → element_at bytes ≡ lexeme_on lexeme bytes
element_as bytes lexeme e = element_on bytes ∙ ap (λ (l : Lexeme). lexeme_on l bytes) e

-- ---- what longest says of the next byte

stops_by : (test : ℕ → Bool) (bytes after : List ℕ) → ((c : ℕ) (rest : List ℕ) → after ≡ c ∷ rest → test c ≡ true → FitsSome (bytes ++ c ∷ []) rest) → IsLongest bytes after → begins_with test after ≡ false
stops_by test bytes [] fits longest = refl
stops_by test bytes (c ∷ rest) fits longest = by_test (test c) refl
  where
    by_test : (t : Bool) → test c ≡ t → t ≡ false
    by_test true e = absurd (let h : c ∷ [] ≡ [] = longest (c ∷ []) rest refl (fits c rest refl e) in cc)
    by_test false e = refl

pub all_with : (test : ℕ → Bool) (bytes : List ℕ) (c : ℕ) → list_all test bytes ≡ true → test c ≡ true → list_all test (bytes ++ c ∷ []) ≡ true
all_with test [] c all is = and_both (test c) true is refl
all_with test (b ∷ bs) c all is = let both = and_cases (test b) (list_all test bs) all in and_both (test b) (list_all test (bs ++ c ∷ [])) both.0 (all_with test bs c both.1 is)

begins_still : (test : ℕ → Bool) (bytes more : List ℕ) → begins_with test bytes ≡ true → begins_with test (bytes ++ more) ≡ true
begins_still test [] more e = absurd (let h : false ≡ true = e in cc)
begins_still test (b ∷ bs) more e = e

numeral_still : (bytes more : List ℕ) → begins_numeral bytes ≡ true → begins_numeral (bytes ++ more) ≡ true
numeral_still [] more e = absurd (let h : false ≡ true = e in cc)
numeral_still (b ∷ bs) more e = elim (or_cases (is_digit b) (b == 46 && begins_with is_digit bs) e) [
  | inl d ↦ or_left (is_digit b) (b == 46 && begins_with is_digit (bs ++ more)) d
  | inr p ↦ let both = and_cases (b == 46) (begins_with is_digit bs) p in by_digit (is_digit b) (b == 46 && begins_with is_digit (bs ++ more)) (and_both (b == 46) (begins_with is_digit (bs ++ more)) both.0 (begins_still is_digit bs more both.1))
]
  where
    by_digit : (t u : Bool) → u ≡ true → (t || u) ≡ true
    by_digit true u h = refl
    by_digit false u h = h

-- ---- words

word_stops : (word after : List ℕ) → IsWord word → IsLongest word after → begins_with is_name_byte after ≡ false
word_stops word after is longest = stops_by is_name_byte word after
    (λ c rest cut name. let w : IsWord (word ++ c ∷ []) = (begins_still is_name_start word (c ∷ []) is.0, all_with is_name_byte word c is.1 name) in
    inr (word_kind (keyword_of (word ++ c ∷ [])) (word ++ c ∷ []), word_spells (word ++ c ∷ []) rest w)) longest

on_word : (bytes after : List ℕ) → begins_with is_name_start bytes ≡ true → lexeme_on lexemes.Word (bytes ++ after) ≡ Ok (Some (word_at (bytes ++ after)).0, (word_at (bytes ++ after)).1)
on_word [] after e = absurd (let h : false ≡ true = e in cc)
on_word (b ∷ bs) after e = refl

word_front : (bytes after : List ℕ) → begins_with is_name_start bytes ≡ true → front_lexeme (bytes ++ after) ≡ lexemes.Word
word_front [] after e = absurd (let h : false ≡ true = e in cc)
word_front (b ∷ bs) after e = front_here b (bs ++ after) ∙ word_lexeme b (bs ++ after) e

pub word_reads : (word after : List ℕ) → IsWord word → IsLongest word after → element_at (word ++ after) ≡ Ok (Some (word_kind (keyword_of word) word), after)
unfolding word_at
word_reads word after is longest =
    let r = run_is is_name_byte word after is.1 (word_stops word after is longest) in
    element_as (word ++ after) lexemes.Word (word_front word after is.0) ∙ on_word word after is.0
    ∙ ap (λ (l : List ℕ). Ok (Some (word_kind (keyword_of l) l), after_run is_name_byte (word ++ after))) r.0
    ∙ ap (λ (l : List ℕ). Ok (Some (word_kind (keyword_of word) word), l)) r.1

-- ---- numerals

pub numeral_front : (bytes after : List ℕ) → begins_numeral bytes ≡ true → front_lexeme (bytes ++ after) ≡ lexemes.Numeral
numeral_front [] after e = absurd (let h : false ≡ true = e in cc)
numeral_front (b ∷ bs) after e = elim (or_cases (is_digit b) (b == 46 && begins_with is_digit bs) e) [
  | inl d ↦ front_here b (bs ++ after) ∙ digit_lexeme b (bs ++ after) d
  | inr p ↦ let both = and_cases (b == 46) (begins_with is_digit bs) p in
      front_here b (bs ++ after) ∙ ap (λ (c : ℕ). lexeme_of c (bs ++ after)) (eqb-true b 46 both.0) ∙ dot_lexeme (bs ++ after) (begins_still is_digit bs after both.1)
]

on_numeral : (bytes after : List ℕ) → begins_numeral bytes ≡ true → lexeme_on lexemes.Numeral (bytes ++ after) ≡ then_with (numeral_at (bytes ++ after)) (λ x. Ok (Some (kinds.Int x.0), x.1))
on_numeral [] after e = absurd (let h : false ≡ true = e in cc)
on_numeral (b ∷ bs) after e = refl

abbrev pub with_after : Outcome ℕ → List ℕ → Outcome (ℕ × List ℕ)
with_after r after = then_with r (λ n. Ok (n, after))

abbrev pub as_int : Outcome (ℕ × List ℕ) → Read
as_int r = then_with r (λ x. Ok (Some (kinds.Int x.0), x.1))

-- a numeral that is taken whole is read by its value
pub numeral_read : (bytes after : List ℕ) → IsNumeral bytes → begins_with is_numeral_byte after ≡ false
    → element_at (bytes ++ after) ≡ as_int (with_after (integer_of bytes (length (bytes ++ after))) after)
unfolding numeral_at
numeral_read bytes after is stops =
    let r = run_is is_numeral_byte bytes after is.1 stops in
    element_as (bytes ++ after) lexemes.Numeral (numeral_front bytes after is.0) ∙ on_numeral bytes after is.0
    ∙ ap (λ (l : List ℕ). as_int (with_after (integer_of l (length (bytes ++ after))) (after_run is_numeral_byte (bytes ++ after)))) r.0
    ∙ ap (λ (l : List ℕ). as_int (with_after (integer_of bytes (length (bytes ++ after))) l)) r.1

pub numeral_goes_on : (bytes : List ℕ) (c : ℕ) → IsNumeral bytes → is_numeral_byte c ≡ true → IsNumeral (bytes ++ c ∷ [])
numeral_goes_on bytes c is b = (numeral_still bytes (c ∷ []) is.0, all_with is_numeral_byte bytes c is.1 b)

int_reads : (n : ℕ) (bytes after : List ℕ) → IsInteger n bytes → n ≤ greatest → IsLongest bytes after → element_at (bytes ++ after) ≡ Ok (Some (kinds.Int n), after)
int_reads n bytes after is le longest =
    let numeral = integer_numeral n bytes is in
    let stops = stops_by is_numeral_byte bytes after (λ c rest cut b. inl (numeral_goes_on bytes c numeral b)) longest in
    let left : ℕ = length (bytes ++ after) in
    numeral_read bytes after numeral stops
    ∙ ap (λ (r : Outcome ℕ). as_int (with_after r after)) (integer_again n bytes left is ∙ ap (λ (o : Option ℕ). or_cause o (causes.NumberTooLarge, left)) (within_some greatest n le))

-- ---- quoted texts and brackets

text_reads : (text bytes after : List ℕ) → IsQuoted text bytes → element_at (bytes ++ after) ≡ Ok (Some (kinds.Text text), after)
text_reads text bytes after is =
    let tail : List ℕ = (flat_map piece_bytes is.pieces ++ is.quote ∷ []) ++ after in
    let cut : bytes ++ after ≡ is.quote ∷ tail = ap (λ (l : List ℕ). l ++ after) is.spelled in
    let front : front_lexeme (bytes ++ after) ≡ lexemes.Quoted = ap front_lexeme cut ∙ front_here is.quote tail ∙ quote_lexeme is.quote tail is.is_quote in
    element_as (bytes ++ after) lexemes.Quoted front ∙ ap (lexeme_on lexemes.Quoted) cut
    ∙ ap (λ r. then_with r (λ x. Ok (Some (kinds.Text x.0), x.1))) (ap quoted_at (sym cut) ∙ quoted_again text bytes after is)

bracket_reads : (body bytes after : List ℕ) → IsBracket body bytes after → element_at (bytes ++ after) ≡ Ok (Some (kinds.Text (long_text body)), after)
bracket_reads body bytes after is =
    let tail : List ℕ = (body ++ closing is.level) ++ after in
    let cut : bytes ++ after ≡ opening is.level ++ tail = ap (λ (l : List ℕ). l ++ after) is.spelled ∙ append_assoc (opening is.level) (body ++ closing is.level) after in
    let front : front_lexeme (bytes ++ after) ≡ lexemes.Bracket = ap front_lexeme cut ∙ opening_lexeme is.level tail in
    let given : bracket_at (opening is.level ++ tail) ≡ Ok (long_text body, after) = ap bracket_at (sym cut) ∙ bracket_again body bytes after is in
    element_as (bytes ++ after) lexemes.Bracket front ∙ ap (lexeme_on lexemes.Bracket) cut
    ∙ ap (λ r. then_with r (λ x. Ok (Some (kinds.Text x.0), x.1))) given

-- ---- symbols

long_stands : (symbol : Symbol) (after : List ℕ) → 2 ≤ length (symbol_bytes symbol) → StandsBefore symbol after
long_stands OpenBracket after le = absurd (omega arith)
long_stands Minus after le = absurd (omega arith)
long_stands _ after le = tt

symbol_given : (symbol : Symbol) (after : List ℕ) → IsLongest (symbol_bytes symbol) after → symbol_at (symbol_bytes symbol ++ after) ≡ Some (symbol, after)
symbol_given symbol after longest =
    let reach = symbol_reaches symbol after in
    let x = reach.0 in
    let cut = symbol_sound (symbol_bytes symbol ++ after) x reach.1 in
    let some = symbol_begins symbol in
    elim (fronts (symbol_bytes symbol) after (symbol_bytes x.0) x.1 cut) [
      | inl same ↦
          let spelled : symbol_bytes x.0 ≡ symbol_bytes symbol = sym (same_front (symbol_bytes symbol) (symbol_bytes x.0) after x.1 cut same) in
          reach.1 ∙ ap (λ (y : Symbol). Some (y, x.1)) (symbol_one x.0 symbol spelled) ∙ ap (λ (l : List ℕ). Some (symbol, l)) (sym same)
      | inr q ↦ elim q [
        | inl p ↦
            let rest : after ≡ (p.0 ∷ p.1) ++ x.1 = append_after (symbol_bytes symbol) after ((p.0 ∷ p.1) ++ x.1) (cut ∙ ap (λ (l : List ℕ). l ++ x.1) p.4 ∙ append_assoc (symbol_bytes symbol) (p.0 ∷ p.1) x.1) in
            let two : 2 ≤ length (symbol_bytes x.0) = (let l = ap length p.4 ∙ length-append (symbol_bytes symbol) (p.0 ∷ p.1) in let m = ap length some.2 in omega arith) in
            absurd (let h : p.0 ∷ p.1 ≡ [] = longest (p.0 ∷ p.1) x.1 rest (inr (kinds.Symbol x.0, (sym p.4, long_stands x.0 x.1 two))) in cc)
        | inr p ↦
            absurd (let l = ap length p.4 ∙ length-append (symbol_bytes x.0) (p.0 ∷ p.1) in
            let m = ap length cut in let a = length-append (symbol_bytes symbol) after in let b = length-append (symbol_bytes x.0) x.1 in let le = reach.2 in omega arith)
      ]
    ]
  where
    same_front : (x y a b : List ℕ) → x ++ a ≡ y ++ b → a ≡ b → x ≡ y
    same_front x y a b e same = append_cancel_right x y a (e ∙ ap (λ (l : List ℕ). y ++ l) (sym same))

on_symbol : (symbol : Symbol) (after : List ℕ) (o : Option (Symbol × List ℕ)) → symbol_at (symbol_bytes symbol ++ after) ≡ Some (symbol, after) → lexeme_on lexemes.Symbol (symbol_bytes symbol ++ after) ≡ Ok (Some (kinds.Symbol symbol), after)
on_symbol symbol after o given =
    let begins = symbol_begins symbol in
    let cut : symbol_bytes symbol ++ after ≡ begins.0 ∷ (begins.1 ++ after) = ap (λ (l : List ℕ). l ++ after) begins.2 in
    ap (lexeme_on lexemes.Symbol) cut ∙ ap (λ r. symbol_by r (suc (length (begins.1 ++ after)))) (ap symbol_at (sym cut) ∙ given)

dot_numeral : (c : ℕ) → is_digit c ≡ true → IsNumeral (46 ∷ c ∷ [])
dot_numeral c d = (d, and_both (is_numeral_byte c) true (numeral_digit c d) refl)
  where
    numeral_digit : (b : ℕ) → is_digit b ≡ true → is_numeral_byte b ≡ true
    numeral_digit b e = grind (arith, nat_tests)

symbol_reads : (symbol : Symbol) (after : List ℕ) → StandsBefore symbol after → IsLongest (symbol_bytes symbol) after → element_at (symbol_bytes symbol ++ after) ≡ Ok (Some (kinds.Symbol symbol), after)
symbol_reads symbol after stands longest =
    let no_digit : symbol ≡ Dot → begins_with is_digit after ≡ false = λ dot.
    let at_dot : IsLongest (46 ∷ []) after = subst (λ (y : Symbol). IsLongest (symbol_bytes y) after) dot longest in
    stops_by is_digit (46 ∷ []) after (λ c rest cut d. inl (dot_numeral c d)) at_dot in
    element_as (symbol_bytes symbol ++ after) lexemes.Symbol (symbol_lexeme symbol after stands no_digit) ∙ on_symbol symbol after None (symbol_given symbol after longest)

-- ---- any element

pub space_front : (b : ℕ) (after : List ℕ) → is_space b ≡ true → front_lexeme (b ∷ after) ≡ lexemes.Space
unfolding front_lexeme lexeme_of
space_front b after e = rw e refl

pub comment_front : (rest : List ℕ) → front_lexeme (45 ∷ 45 ∷ rest) ≡ lexemes.Comment
unfolding front_lexeme lexeme_of
comment_front rest = refl

on_comment : (bytes after line : List ℕ) → bytes ≡ 45 ∷ 45 ∷ line → comment_at (bytes ++ after) ≡ Ok after → element_at (bytes ++ after) ≡ Ok (None, after)
on_comment bytes after line is given =
    let cut : bytes ++ after ≡ 45 ∷ 45 ∷ (line ++ after) = ap (λ (l : List ℕ). l ++ after) is in
    ap element_at cut ∙ element_as (45 ∷ 45 ∷ (line ++ after)) lexemes.Comment (comment_front (line ++ after))
    ∙ ap (λ r. then_with r (λ l. Ok (None, l))) (ap comment_at (sym cut) ∙ given)

pub element_reads : (element : Element) (after : List ℕ) → FitsElement element after → element_at (element_bytes element ++ after) ≡ Ok (kind_in element, after)
element_reads (Gap bytes) after (inl s) =
    ap (λ (l : List ℕ). element_at (l ++ after)) s.1 ∙ element_as (s.0 ∷ after) lexemes.Space (space_front s.0 after s.2)
element_reads (Gap bytes) after (inr (inl c)) = on_comment bytes after c.line c.spelled (short_again bytes after c)
element_reads (Gap bytes) after (inr (inr c)) = on_comment bytes after c.bracket_bytes c.spelled (long_again bytes after c)
element_reads (Spelled (kinds.Name name) bytes) after fits =
    word_reads bytes after (name_is_word bytes fits.0.1) fits.1 ∙ ap (λ (o : Option _). Ok (Some (word_kind o bytes), after)) (name_again bytes fits.0.1) ∙ ap (λ (l : List ℕ). Ok (Some (kinds.Name l), after)) fits.0.0
element_reads (Spelled (kinds.Keyword keyword) bytes) after fits =
    word_reads bytes after (keyword_word bytes keyword fits.0) fits.1
    ∙ ap (λ (o : Option _). Ok (Some (word_kind o bytes), after)) (ap keyword_of fits.0 ∙ keyword_again keyword)
element_reads (Spelled (kinds.Symbol symbol) bytes) after fits =
    ap (λ (l : List ℕ). element_at (l ++ after)) fits.0.0 ∙ symbol_reads symbol after fits.0.1 (subst (λ (l : List ℕ). IsLongest l after) fits.0.0 fits.1)
element_reads (Spelled (kinds.Text text) bytes) after (inl quoted, longest) = text_reads text bytes after quoted
element_reads (Spelled (kinds.Text text) bytes) after (inr bracket, longest) =
    bracket_reads bracket.0 bytes after bracket.2 ∙ ap (λ (l : List ℕ). Ok (Some (kinds.Text l), after)) (sym bracket.1)
element_reads (Spelled (kinds.Int n) bytes) after fits = int_reads n bytes after fits.0.0 fits.0.1 fits.1
element_reads (Spelled kinds.End bytes) after fits = absurd fits.0
