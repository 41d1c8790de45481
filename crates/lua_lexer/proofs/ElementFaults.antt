-- Where no gap and no token can be read, the fault is the defined one, and the defined fault is answered.
use Rattle.std.proofs.Common.{◌≡◌, ℕ, suc, ◌+◌, ◌<◌, ◌≤◌, Bool, true, false, cond, ◌&&◌, List, [], ◌∷◌, ◌++◌, length, Option, Some, None, Ok, Err, refl, sym, ap, subst, ◌∙◌, length-append, arith, inl, inr}
use Rattle.std.specs.Prelude.{IsSome, is_some, ◌==◌, ◌||◌}
use Rattle.std.specs.List.{flat_map}
use Rattle.std.proofs.lemmas.Bool.{eqb-true}
use Rattle.std.proofs.lemmas.Bool.Decides.{nat_tests}
use Rattle.lua_lexer.specs.declared.element.Lexeme.{Lexeme}
use Rattle.lua_lexer.specs.declared.element.Lexeme.TheVariants as lexemes
use Rattle.lua_lexer.specs.declared.fault.LexFault.{LexFault}
use Rattle.lua_lexer.specs.declared.fault.LexFault.TheVariants as faults
use Rattle.lua_lexer.specs.declared.stop.Cause.{Cause}
use Rattle.lua_lexer.specs.declared.stop.Cause.TheVariants as causes
use Rattle.lua_lexer.specs.declared.token.TokenKind.{TokenKind}
use Rattle.lua_lexer.specs.declared.token.TokenKind.TheVariants as kinds
use Rattle.lua_lexer.specs.declared.vocabulary.Symbol.{Symbol}
use Rattle.lua_lexer.specs.declared.vocabulary.Symbol.TheVariants.{Minus, OpenBracket}
use Rattle.lua_names.specs.Names.{is_digit, is_name_start, is_name_byte}
use Rattle.lua_lexer.specs.Alphabet.{is_numeral_byte, is_quote, value, begins_with}
use Rattle.lua_lexer.specs.Vocabulary.{symbol_bytes}
use Rattle.lua_lexer.specs.QuotedText.{piece_bytes, FailsToClose, ends_line}
use Rattle.lua_lexer.specs.LongBracket.{Opens, StaysOpen}
use Rattle.lua_lexer.specs.Spelling.{IsNumeral, begins_numeral, IsInteger, StandsBefore, SpellsToken}
use Rattle.lua_lexer.specs.Faults.{BeginsNothing, HasBadByte, HasOpenBracket, HasNumeral, Fails}
use Rattle.lua_names.specs.Keywords.{keyword_of}
use Rattle.lua_lexer.specs.Reading.{Outcome, then_with, or_cause, within, greatest, run, after_run, word_kind, first_of, with_rest, single_of, single_at, pair_at, dots_at, symbol_at, integer_of, numeral_at, bracket_at, comment_at, quoted_at, begins_bracket, lexeme_of, Read, symbol_by, lexeme_at, element_at, escape_fault, fault_at}
use Rattle.lua_lexer.proofs.Choices.{err_is, or_cases, and_cases, and_both, true_not_false}
use Rattle.lua_lexer.proofs.Runs.{run_then_rest, run_passes, rest_stops}
use Rattle.lua_lexer.proofs.Words.{IsWord, word_spells, name_is_word, keyword_word}
use Rattle.lua_lexer.proofs.Symbols.{single_sound, symbol_sound, symbol_begins}
use Rattle.lua_lexer.proofs.Integers.{integer_again, integer_answer, integer_numeral}
use Rattle.lua_lexer.proofs.EscapeFaults.{within_none, digit_weight}
use Rattle.lua_lexer.proofs.QuotedTexts.{QuotedFails, quoted_stuck, quoted_refuses}
use Rattle.lua_lexer.proofs.BracketTexts.{bracket_fails, bracket_bad, bracket_stays, comment_fails, comment_stays}
use Rattle.lua_lexer.proofs.Announcements.{front_lexeme, quote_lexeme, opening_lexeme}
use Rattle.lua_lexer.proofs.Elements.{Announces, announces_as, front_here, all_after, nothing_more, numeral_run}
use Rattle.lua_lexer.proofs.ElementsAgain.{lexeme_on, element_as, with_after, as_int, numeral_read, numeral_goes_on, comment_front}

abbrev Taken : Type 0
Taken = Option TokenKind × List ℕ

abbrev stopped : Cause × ℕ → Read
stopped d = Err d

abbrev taken_none : Taken
taken_none = (None, [])

-- ---- a fault that is answered is the defined one

-- the fault at the front of the rest, and where it lies
pub record ElementFails (rest : List ℕ) (d : Cause × ℕ) : Type 0 where
  pub behind : ℕ
  pub fails : (place : ℕ) → Fails (fault_at d.0 place) rest behind
  pub left : d.1 + behind ≡ length rest

fails_as : (rest : List ℕ) (made d : Cause × ℕ) → made ≡ d → ElementFails rest made → ElementFails rest d
fails_as rest made d e f = subst (λ (x : Cause × ℕ). ElementFails rest x) e f

then_stopped : {A : Type 0} (r : Outcome A) (f : A → Taken) (d : Cause × ℕ) → then_with r (λ a. Ok (f a)) ≡ stopped d → r ≡ Err d
then_stopped (Ok a) f d e = absurd cc
then_stopped (Err c) f d e = cc

comment_open : (b : ℕ) (rest : List ℕ) (d : Cause × ℕ) → b ≡ 45 → begins_with (λ c. c == 45) rest ≡ true → comment_at (b ∷ rest) ≡ Err d → ElementFails (b ∷ rest) d
comment_open b [] d dash begins e = absurd (let g : false ≡ true = begins in cc)
comment_open b (c ∷ cs) d dash begins e =
    let both : b ∷ c ∷ cs ≡ 45 ∷ 45 ∷ cs = ap (λ (x : ℕ). x ∷ c ∷ cs) dash ∙ ap (λ (x : ℕ). 45 ∷ x ∷ cs) (eqb-true c 45 begins) in
    let f = comment_fails cs d (ap comment_at (sym both) ∙ e) in
    fails_as (b ∷ c ∷ cs) (causes.OpenBracket, length (45 ∷ 45 ∷ cs)) d (sym f.0) (record { behind = 0; fails = λ place. (inr (cs, both, f.1), refl); left = omega arith })

numeral_whole : (b : ℕ) (rest : List ℕ) → begins_numeral (b ∷ rest) ≡ true → HasNumeral (b ∷ rest) (run is_numeral_byte (b ∷ rest))
numeral_whole b rest begins = record {
  after = after_run is_numeral_byte (b ∷ rest);
  spelled = sym (run_then_rest is_numeral_byte (b ∷ rest));
  numeral = (numeral_run b rest begins, run_passes is_numeral_byte (b ∷ rest));
  longest = λ more others cut is. nothing_more is_numeral_byte more others (after_run is_numeral_byte (b ∷ rest)) cut (all_after is_numeral_byte (run is_numeral_byte (b ∷ rest)) more is.1) (rest_stops is_numeral_byte (b ∷ rest));
}

or_none : (n left : ℕ) (d : Cause × ℕ) → or_cause (within greatest n) (causes.NumberTooLarge, left) ≡ Err d → (greatest < n) × ((causes.NumberTooLarge, left) ≡ d)
or_none n left d e = by_answer (within greatest n) refl e
  where
    by_answer : (o : Option ℕ) → within greatest n ≡ o → or_cause o (causes.NumberTooLarge, left) ≡ Err d → (greatest < n) × ((causes.NumberTooLarge, left) ≡ d)
    by_answer None w e' = (within_none greatest n w, err_is 0 (causes.NumberTooLarge, left) d e')
    by_answer (Some k) w e' = absurd cc

numeral_fails : (b : ℕ) (rest : List ℕ) (d : Cause × ℕ) → begins_numeral (b ∷ rest) ≡ true → numeral_at (b ∷ rest) ≡ Err d → ElementFails (b ∷ rest) d
unfolding numeral_at
numeral_fails b rest d begins e =
    let bytes : List ℕ = run is_numeral_byte (b ∷ rest) in
    let left : ℕ = length (b ∷ rest) in
    let whole = numeral_whole b rest begins in
    let read : integer_of bytes left ≡ Err d = number_stopped (integer_of bytes left) e in
    elim (integer_answer bytes left whole.numeral) [
      | inl a ↦
          let over = or_none a.n left d (sym a.answer ∙ read) in
          fails_as (b ∷ rest) (causes.NumberTooLarge, left) d over.1 (record { behind = 0; fails = λ place. (bytes, whole, a.n, a.is, over.0, refl); left = omega arith })
      | inr bad ↦
          fails_as (b ∷ rest) (causes.BadNumeral, left) d (err_is 0 (causes.BadNumeral, left) d (sym bad.0 ∙ read)) (record { behind = 0; fails = λ place. (bytes, whole, bad.1, refl); left = omega arith })
    ]
  where
    number_stopped : (r : Outcome ℕ) → then_with {B = ℕ × List ℕ} r (λ n. Ok (n, after_run is_numeral_byte (b ∷ rest))) ≡ Err d → r ≡ Err d
    number_stopped (Ok n) h = absurd cc
    number_stopped (Err c) h = cc

quoted_fails : (b : ℕ) (rest : List ℕ) (d : Cause × ℕ) → is_quote b ≡ true → quoted_at (b ∷ rest) ≡ Err d → ElementFails (b ∷ rest) d
quoted_fails b rest d quote e = by_end (ends_line f.failed) refl
  where
    f : QuotedFails (b ∷ rest) d
    f = quoted_stuck b rest d quote e

    total : length (b ∷ rest) ≡ 1 + (length (flat_map piece_bytes f.fails.pieces) + length (f.front ++ f.failed))
    total = let l = ap length f.fails.spelled in let m = length-append (flat_map piece_bytes f.fails.pieces) (f.front ++ f.failed) in omega arith

    by_end : (t : Bool) → ends_line f.failed ≡ t → ElementFails (b ∷ rest) d
    by_end true t = fails_as (b ∷ rest) (causes.OpenString, length (b ∷ rest)) d
        (sym (f.is ∙ ap (λ (u : Bool). cond u (causes.OpenString, length (b ∷ rest)) (causes.BadEscape, length (f.front ++ f.failed))) t))
        (record { behind = 0; fails = λ place. (f.front, f.failed, f.place, f.fails, t, refl); left = omega arith })
    by_end false t = fails_as (b ∷ rest) (causes.BadEscape, length (f.front ++ f.failed)) d
        (sym (f.is ∙ ap (λ (u : Bool). cond u (causes.OpenString, length (b ∷ rest)) (causes.BadEscape, length (f.front ++ f.failed))) t))
        (record { behind = f.place; fails = λ place. (f.front, f.failed, f.fails, t); left = let p = f.fails.place_is in let l = total in omega arith })

bracket_bytes : (b : ℕ) (rest : List ℕ) → b ≡ 91 → begins_bracket rest ≡ true → (Opens (b ∷ rest) → ⊥) → (more : List ℕ) × (b ∷ rest ≡ 91 ∷ 61 ∷ more)
bracket_bytes b [] square begins shut = absurd (let g : false ≡ true = begins in cc)
bracket_bytes b (c ∷ cs) square begins shut = elim (or_cases (c == 91) (c == 61) begins) [
  | inl p ↦ absurd (shut (0, cs, ap (λ (x : ℕ). x ∷ c ∷ cs) square ∙ ap (λ (x : ℕ). 91 ∷ x ∷ cs) (eqb-true c 91 p)))
  | inr p ↦ (cs, ap (λ (x : ℕ). x ∷ c ∷ cs) square ∙ ap (λ (x : ℕ). 91 ∷ x ∷ cs) (eqb-true c 61 p))
]

bracket_open : (b : ℕ) (rest : List ℕ) (d : Cause × ℕ) → b ≡ 91 → begins_bracket rest ≡ true → bracket_at (b ∷ rest) ≡ Err d → ElementFails (b ∷ rest) d
bracket_open b rest d square begins e = elim (bracket_fails (b ∷ rest) d e) [
  | inl p ↦ let more = bracket_bytes b rest square begins p.1 in
      fails_as (b ∷ rest) (causes.BadByte, length (b ∷ rest)) d (sym p.0) (record { behind = 0; fails = λ place. (inr (more.0, more.1, p.1), refl); left = omega arith })
  | inr p ↦ fails_as (b ∷ rest) (causes.OpenBracket, length (b ∷ rest)) d (sym p.0) (record { behind = 0; fails = λ place. (inl p.1, refl); left = omega arith })
]

single_none : (b : ℕ) (rest : List ℕ) → symbol_at (b ∷ rest) ≡ None → single_of b ≡ None
unfolding symbol_at
single_none b rest e = by_single (single_of b) (second (pair_at (b ∷ rest)) (single_at (b ∷ rest)) (second (dots_at (b ∷ rest)) (first_of (pair_at (b ∷ rest)) (single_at (b ∷ rest))) e))
  where
    second : (x y : Option (Symbol × List ℕ)) → first_of x y ≡ None → y ≡ None
    second None y h = h
    second (Some z) y h = absurd cc

    by_single : (o : Option Symbol) → with_rest o rest ≡ None → o ≡ None
    by_single None h = refl
    by_single (Some y) h = absurd cc

no_symbol_begins : (b : ℕ) (symbol : Symbol) (more : List ℕ) → single_of b ≡ None → b ∷ more ≡ symbol_bytes symbol → ⊥
no_symbol_begins b symbol more none e =
    let s = symbol_begins symbol in
    let same : b ∷ more ≡ s.0 ∷ s.1 = e ∙ s.2 in
    let head : s.0 ≡ b = cc in
    let some : is_some (single_of b) ≡ true = subst (λ (c : ℕ). is_some (single_of c) ≡ true) head s.3 in
    let g : false ≡ true = rw none at some in cc

begins_nothing : (b : ℕ) (rest : List ℕ) → Announces lexemes.Symbol b rest → single_of b ≡ None → BeginsNothing b
unfolding single_of
begins_nothing b rest a none = (a.0, spelled)
  where
    no_dot : b ≡ 46 → ⊥
    no_dot e = let h : single_of 46 ≡ None = subst (λ (c : ℕ). single_of c ≡ None) e none in cc

    no_open : b ≡ 91 → ⊥
    no_open e = let h : single_of 91 ≡ None = subst (λ (c : ℕ). single_of c ≡ None) e none in cc

    numeral : (more : List ℕ) → IsNumeral (b ∷ more) → ⊥
    numeral more is = elim (or_cases (is_digit b) (b == 46 && begins_with is_digit more) is.0) [
      | inl d ↦ true_not_false (is_digit b) d a.2
      | inr p ↦ no_dot (eqb-true b 46 (and_cases (b == 46) (begins_with is_digit more) p).0)
    ]

    spelled : (kind : TokenKind) (more after : List ℕ) → SpellsToken kind (b ∷ more) after → ⊥
    spelled (kinds.Name name) more after s = true_not_false (is_name_start b) (name_is_word (b ∷ more) s.1).0 a.1
    spelled (kinds.Keyword keyword) more after s = true_not_false (is_name_start b) (keyword_word (b ∷ more) keyword s).0 a.1
    spelled (kinds.Symbol symbol) more after s = no_symbol_begins b symbol more none s.0
    spelled (kinds.Text text) more after (inl q) = let head : b ≡ q.quote = (let h = q.spelled in cc) in true_not_false (is_quote b) (subst (λ (c : ℕ). is_quote c ≡ true) (sym head) q.is_quote) a.3
    spelled (kinds.Text text) more after (inr l) = no_open (let h = l.2.spelled in cc)
    spelled (kinds.Int n) more after s = numeral more (integer_numeral n (b ∷ more) s.0)
    spelled kinds.End more after s = s

symbol_fails : (b : ℕ) (rest : List ℕ) (d : Cause × ℕ) → Announces lexemes.Symbol b rest → (o : Option (Symbol × List ℕ)) → symbol_at (b ∷ rest) ≡ o → symbol_by o (suc (length rest)) ≡ stopped d → ElementFails (b ∷ rest) d
symbol_fails b rest d a (Some y) given e = absurd cc
symbol_fails b rest d a None given e =
    fails_as (b ∷ rest) (causes.BadByte, suc (length rest)) d (err_is taken_none (causes.BadByte, suc (length rest)) d e)
    (record { behind = 0; fails = λ place. (inl (b, rest, refl, begins_nothing b rest a (single_none b rest given)), refl); left = omega arith })

pub element_fails : (b : ℕ) (rest : List ℕ) (d : Cause × ℕ) → element_at (b ∷ rest) ≡ Err d → ElementFails (b ∷ rest) d
unfolding element_at
element_fails b rest d e = by_lexeme (lexeme_of b rest) refl e
  where
    by_lexeme : (l : Lexeme) → lexeme_of b rest ≡ l → lexeme_at l b rest ≡ stopped d → ElementFails (b ∷ rest) d
    by_lexeme lexemes.Space is e' = absurd cc
    by_lexeme lexemes.Comment is e' = let a = announces_as b rest lexemes.Comment is in comment_open b rest d a.0 a.1 (then_stopped (comment_at (b ∷ rest)) (λ after. (None, after)) d e')
    by_lexeme lexemes.Word is e' = absurd cc
    by_lexeme lexemes.Numeral is e' = numeral_fails b rest d (announces_as b rest lexemes.Numeral is) (then_stopped (numeral_at (b ∷ rest)) (λ x. (Some (kinds.Int x.0), x.1)) d e')
    by_lexeme lexemes.Quoted is e' = quoted_fails b rest d (announces_as b rest lexemes.Quoted is) (then_stopped (quoted_at (b ∷ rest)) (λ x. (Some (kinds.Text x.0), x.1)) d e')
    by_lexeme lexemes.Bracket is e' = let a = announces_as b rest lexemes.Bracket is in bracket_open b rest d a.0 a.1 (then_stopped (bracket_at (b ∷ rest)) (λ x. (Some (kinds.Text x.0), x.1)) d e')
    by_lexeme lexemes.Symbol is e' = symbol_fails b rest d (announces_as b rest lexemes.Symbol is) (symbol_at (b ∷ rest)) refl e'

-- ---- the defined fault is answered

-- the same fault at this place
abbrev pub with_place : LexFault → ℕ → LexFault
with_place (faults.BadByte _) place = faults.BadByte place
with_place (faults.OpenString _) place = faults.OpenString place
with_place (faults.OpenBracket _) place = faults.OpenBracket place
with_place (faults.BadEscape _) place = faults.BadEscape place
with_place (faults.BadNumeral _) place = faults.BadNumeral place
with_place (faults.NumberTooLarge _) place = faults.NumberTooLarge place
with_place (faults.TooLong n) place = faults.TooLong n
with_place faults.NoMemory place = faults.NoMemory

-- the answer at a rest with this fault
pub record Answered (fault : LexFault) (rest : List ℕ) (behind : ℕ) : Type 0 where
  pub cause : Cause
  pub left : ℕ
  pub answer : element_at rest ≡ Err (cause, left)
  pub total : left + behind ≡ length rest
  pub fault_is : (place : ℕ) → fault_at cause place ≡ with_place fault place

alone_stands : (symbol : Symbol) → StandsBefore symbol []
alone_stands OpenBracket = refl
alone_stands Minus = refl
alone_stands _ = tt

nothing_single : (b : ℕ) → BeginsNothing b → (o : Option Symbol) → single_of b ≡ o → o ≡ None
nothing_single b nothing None e = refl
nothing_single b nothing (Some symbol) e = absurd (nothing.1 (kinds.Symbol symbol) [] [] (sym (single_sound b symbol e), alone_stands symbol))

nothing_name : (b : ℕ) → BeginsNothing b → (t : Bool) → is_name_start b ≡ t → t ≡ false
nothing_name b nothing false e = refl
nothing_name b nothing true e =
    let is : IsWord (b ∷ []) = (e, and_both (is_name_byte b) true (name_byte (is_name_start b) (is_digit b) e) refl) in
    absurd (nothing.1 (word_kind (keyword_of (b ∷ [])) (b ∷ [])) [] [] (word_spells (b ∷ []) [] is))
  where
    name_byte : (x y : Bool) → x ≡ true → (x || y) ≡ true
    name_byte x y h = rw h refl

nothing_digit : (b : ℕ) → BeginsNothing b → (t : Bool) → is_digit b ≡ t → t ≡ false
nothing_digit b nothing false e = refl
nothing_digit b nothing true e =
    let w = digit_weight b e in
    absurd (nothing.1 (kinds.Int (value 10 (b ∷ []))) [] [] (inl (e, and_both (is_digit b) true e refl, refl), small (value 10 (b ∷ [])) (omega arith)))
  where
    small : (n : ℕ) → n ≤ 9 → n ≤ 9223372036854775807
    small n le = omega arith

nothing_quote : (b : ℕ) → BeginsNothing b → (t : Bool) → is_quote b ≡ t → t ≡ false
nothing_quote b nothing false e = refl
nothing_quote b nothing true e = absurd (nothing.1 (kinds.Text []) (b ∷ []) [] (inl (record { quote = b; pieces = []; is_quote = e; in_turn = tt; spelled = refl; stands_for = refl })))

not_this : (b k : ℕ) → single_of b ≡ None → IsSome (single_of k) → (t : Bool) → (b == k) ≡ t → t ≡ false
not_this b k none some false e = refl
not_this b k none some true e = absurd (let h : single_of k ≡ None = subst (λ (c : ℕ). single_of c ≡ None) (eqb-true b k e) none in let g : is_some (single_of k) ≡ true = some in let f : false ≡ true = rw h at g in cc)

some_single : (k : ℕ) → (o : Option Symbol) → single_of k ≡ o → IsSome o → IsSome (single_of k)
some_single k o e s = rw e s

nothing_lexeme : (b : ℕ) (more : List ℕ) → BeginsNothing b → single_of b ≡ None → lexeme_of b more ≡ lexemes.Symbol
unfolding lexeme_of single_of
nothing_lexeme b more nothing none =
    let name = nothing_name b nothing (is_name_start b) refl in
    let digit = nothing_digit b nothing (is_digit b) refl in
    let quote = nothing_quote b nothing (is_quote b) refl in
    let dot = not_this b 46 none refl (b == 46) refl in
    let dash = not_this b 45 none refl (b == 45) refl in
    let square = not_this b 91 none refl (b == 91) refl in
    rw (nothing.0, name, digit, quote, dot, dash, square) refl

nothing_symbol : (b : ℕ) (more : List ℕ) → single_of b ≡ None → (o : Option (Symbol × List ℕ)) → symbol_at (b ∷ more) ≡ o → o ≡ None
nothing_symbol b more none None e = refl
nothing_symbol b more none (Some x) e =
    let cut = symbol_sound (b ∷ more) x e in
    let s = symbol_begins x.0 in
    let same : b ∷ more ≡ s.0 ∷ (s.1 ++ x.1) = cut ∙ ap (λ (l : List ℕ). l ++ x.1) s.2 in
    let head : s.0 ≡ b = cc in
    absurd (let g : is_some (single_of b) ≡ true = subst (λ (c : ℕ). is_some (single_of c) ≡ true) head s.3 in let f : false ≡ true = rw none at g in cc)

nothing_answered : (b : ℕ) (more : List ℕ) → BeginsNothing b → element_at (b ∷ more) ≡ Err (causes.BadByte, suc (length more))
nothing_answered b more nothing =
    let none = nothing_single b nothing (single_of b) refl in
    element_as (b ∷ more) lexemes.Symbol (front_here b more ∙ nothing_lexeme b more nothing none)
    ∙ ap (λ o. symbol_by o (suc (length more))) (nothing_symbol b more none (symbol_at (b ∷ more)) refl)

square_front : (more : List ℕ) → front_lexeme (91 ∷ 61 ∷ more) ≡ lexemes.Bracket
unfolding front_lexeme lexeme_of
square_front more = refl

bad_answered : (rest : List ℕ) → HasBadByte rest → element_at rest ≡ Err (causes.BadByte, length rest)
bad_answered rest (inl n) = ap element_at n.2 ∙ nothing_answered n.0 n.1 n.3 ∙ ap (λ (l : List ℕ). Err (causes.BadByte, length {A = ℕ} l)) (sym n.2)
bad_answered rest (inr s) =
    ap element_at s.1 ∙ element_as (91 ∷ 61 ∷ s.0) lexemes.Bracket (square_front s.0)
    ∙ ap (λ r. then_with {B = Taken} r (λ x. Ok (Some (kinds.Text x.0), x.1))) (ap bracket_at (sym s.1) ∙ bracket_bad rest s.2)

stays_answered : (rest : List ℕ) → StaysOpen rest → element_at rest ≡ Err (causes.OpenBracket, length rest)
stays_answered rest s =
    element_as rest lexemes.Bracket (ap front_lexeme s.2 ∙ opening_lexeme s.0 s.1) ∙ ap (lexeme_on lexemes.Bracket) s.2
    ∙ ap (λ r. then_with {B = Taken} r (λ x. Ok (Some (kinds.Text x.0), x.1))) (ap bracket_at (sym s.2) ∙ bracket_stays rest s)

open_answered : (rest : List ℕ) → HasOpenBracket rest → element_at rest ≡ Err (causes.OpenBracket, length rest)
open_answered rest (inl s) = stays_answered rest s
open_answered rest (inr c) =
    ap element_at c.1 ∙ element_as (45 ∷ 45 ∷ c.0) lexemes.Comment (comment_front c.0)
    ∙ ap (λ r. then_with {B = Taken} r (λ l. Ok (None, l))) (comment_stays c.0 c.2)
    ∙ ap (λ (l : List ℕ). Err (causes.OpenBracket, length {A = ℕ} l)) (sym c.1)

quoted_answered : (rest front failed : List ℕ) (place : ℕ) → FailsToClose rest front failed place → element_at rest ≡ Err (escape_fault (length rest) (length (front ++ failed)) failed)
quoted_answered rest front failed place f =
    let tail : List ℕ = flat_map piece_bytes f.pieces ++ (front ++ failed) in
    element_as rest lexemes.Quoted (ap front_lexeme f.spelled ∙ front_here f.quote tail ∙ quote_lexeme f.quote tail f.is_quote) ∙ ap (lexeme_on lexemes.Quoted) f.spelled
    ∙ ap (λ r. then_with {B = Taken} r (λ x. Ok (Some (kinds.Text x.0), x.1))) (ap quoted_at (sym f.spelled) ∙ quoted_refuses rest front failed place f)

numeral_stops : (rest bytes : List ℕ) (h : HasNumeral rest bytes) (t : Bool) → begins_with is_numeral_byte h.after ≡ t → t ≡ false
numeral_stops rest bytes h t e = by_after h.after refl t e
  where
    by_after : (l : List ℕ) → h.after ≡ l → (u : Bool) → begins_with is_numeral_byte h.after ≡ u → u ≡ false
    by_after [] cut u e' = sym e' ∙ ap (begins_with is_numeral_byte) cut
    by_after (c ∷ cs) cut false e' = refl
    by_after (c ∷ cs) cut true e' = absurd (let b : is_numeral_byte c ≡ true = sym (ap (begins_with is_numeral_byte) cut) ∙ e' in
        let g : c ∷ [] ≡ [] = h.longest (c ∷ []) cs cut (numeral_goes_on bytes c h.numeral b) in cc)

numeral_answered : (rest bytes : List ℕ) (h : HasNumeral rest bytes) → element_at rest ≡ as_int (with_after (integer_of bytes (length rest)) h.after)
numeral_answered rest bytes h =
    ap element_at h.spelled ∙ numeral_read bytes h.after h.numeral (numeral_stops rest bytes h (begins_with is_numeral_byte h.after) refl)
    ∙ ap (λ (l : List ℕ). as_int (with_after (integer_of bytes (length {A = ℕ} l)) h.after)) (sym h.spelled)

no_integer : (rest bytes : List ℕ) (h : HasNumeral rest bytes) → ((n : ℕ) → IsInteger n bytes → ⊥) → integer_of bytes (length rest) ≡ Err (causes.BadNumeral, length rest)
no_integer rest bytes h none = elim (integer_answer bytes (length rest) h.numeral) [
  | inl a ↦ absurd (none a.n a.is)
  | inr bad ↦ bad.0
]

over_none : (n : ℕ) → greatest < n → within greatest n ≡ None
over_none n lt = grind (arith, nat_tests)

pub element_answered : (fault : LexFault) (rest : List ℕ) (behind : ℕ) → Fails fault rest behind → Answered fault rest behind
element_answered (faults.BadByte place) rest behind f = record { cause = causes.BadByte; left = length rest; answer = bad_answered rest f.0; total = (let e = f.1 in omega arith); fault_is = λ at. refl }
element_answered (faults.OpenBracket place) rest behind f = record { cause = causes.OpenBracket; left = length rest; answer = open_answered rest f.0; total = (let e = f.1 in omega arith); fault_is = λ at. refl }
element_answered (faults.OpenString place) rest behind f = record {
  cause = causes.OpenString;
  left = length rest;
  answer = quoted_answered rest f.0 f.1 f.2 f.3 ∙ ap (λ (t : Bool). Err (cond t (causes.OpenString, length rest) (causes.BadEscape, length (f.0 ++ f.1)))) f.4;
  total = (let e = f.5 in omega arith);
  fault_is = λ at. refl;
}
element_answered (faults.BadEscape place) rest behind f = record {
  cause = causes.BadEscape;
  left = length (f.0 ++ f.1);
  answer = quoted_answered rest f.0 f.1 behind f.2 ∙ ap (λ (t : Bool). Err (cond t (causes.OpenString, length rest) (causes.BadEscape, length (f.0 ++ f.1)))) f.3;
  total = (let l = ap length f.2.spelled in let m = length-append (flat_map piece_bytes f.2.pieces) (f.0 ++ f.1) in let p = f.2.place_is in omega arith);
  fault_is = λ at. refl;
}
element_answered (faults.BadNumeral place) rest behind f = record {
  cause = causes.BadNumeral;
  left = length rest;
  answer = numeral_answered rest f.0 f.1 ∙ ap (λ (r : Outcome ℕ). as_int (with_after r f.1.after)) (no_integer rest f.0 f.1 f.2);
  total = (let e = f.3 in omega arith);
  fault_is = λ at. refl;
}
element_answered (faults.NumberTooLarge place) rest behind f = record {
  cause = causes.NumberTooLarge;
  left = length rest;
  answer = numeral_answered rest f.0 f.1 ∙ ap (λ (r : Outcome ℕ). as_int (with_after r f.1.after)) (integer_again f.2 f.0 (length rest) f.3 ∙ ap (λ (o : Option ℕ). or_cause o (causes.NumberTooLarge, length rest)) (over_none f.2 f.4));
  total = (let e = f.5 in omega arith);
  fault_is = λ at. refl;
}
element_answered (faults.TooLong n) rest behind f = absurd f
element_answered faults.NoMemory rest behind f = absurd f
