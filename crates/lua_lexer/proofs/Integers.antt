-- Integers among the numerals.
use Rattle.std.proofs.Common.{◌≡◌, ℕ, Bool, true, false, cond, ◌&&◌, leb, List, [], ◌∷◌, Option, Some, None, Err, refl, sym, ap, subst, ◌∙◌, arith, inl, inr}
use Rattle.std.specs.Prelude.{IsTrue, is_some, ◌⊎◌, ◌==◌, ◌||◌}
use Rattle.std.specs.List.{list_all}
use Rattle.std.proofs.lemmas.Bool.{eqb-true}
use Rattle.std.proofs.lemmas.Bool.Decides.{nat_tests}
use Rattle.lua_lexer.specs.declared.stop.Cause.{Cause}
use Rattle.lua_lexer.specs.declared.stop.Cause.TheVariants as causes
use Rattle.lua_names.specs.Names.{is_digit}
use Rattle.lua_lexer.specs.Alphabet.{is_numeral_byte, is_hexadecimal, digit_of, value, begins_with}
use Rattle.lua_lexer.specs.Spelling.{IsNumeral, begins_numeral, IsInteger}
use Rattle.lua_lexer.specs.Reading.{within, greatest, or_cause, hexadecimal_digits, integer_by, integer_of}
use Rattle.lua_lexer.proofs.Choices.{chosen, err_is, some_is, and_cases, and_both, true_not_false}

pub mono : (p q : ℕ → Bool) → ((b : ℕ) → p b ≡ true → q b ≡ true) → (bytes : List ℕ) → list_all p bytes ≡ true → list_all q bytes ≡ true
mono p q leads [] all = refl
mono p q leads (b ∷ bs) all = let both = and_cases (p b) (list_all p bs) all in and_both (q b) (list_all q bs) (leads b both.0) (mono p q leads bs both.1)

-- ---- what is hexadecimal

mark_no_digit : (x : ℕ) → (x == 120 || x == 88) ≡ true → is_digit x ≡ false
mark_no_digit x e = grind (arith, nat_tests)

record HexadecimalParts (bytes digits : List ℕ) : Type 0 where
  mark : ℕ
  spelled : bytes ≡ 48 ∷ mark ∷ digits
  is_mark : IsTrue (mark == 120 || mark == 88)
  begins : IsTrue (begins_with is_hexadecimal digits)
  all : IsTrue (list_all is_hexadecimal digits)

parts_of : (bytes digits : List ℕ) → hexadecimal_digits bytes ≡ Some digits → HexadecimalParts bytes digits
parts_of [] digits e = absurd cc
parts_of (z ∷ []) digits e = absurd cc
parts_of (z ∷ x ∷ []) digits e = absurd cc
parts_of (z ∷ x ∷ d ∷ ds) digits e = elim (chosen ((z == 48 && (x == 120 || x == 88)) && list_all is_hexadecimal (d ∷ ds)) (Some (d ∷ ds)) None (Some digits) e) [
  | inl p ↦
      let outer = and_cases (z == 48 && (x == 120 || x == 88)) (list_all is_hexadecimal (d ∷ ds)) p.0 in
      let inner = and_cases (z == 48) (x == 120 || x == 88) outer.0 in
      let first = and_cases (is_hexadecimal d) (list_all is_hexadecimal ds) outer.1 in
      subst (λ (l : List ℕ). HexadecimalParts (z ∷ x ∷ d ∷ ds) l) (some_is (d ∷ ds) digits p.1)
      (record { mark = x; spelled = ap (λ (c : ℕ). c ∷ x ∷ d ∷ ds) (eqb-true z 48 inner.0); is_mark = inner.1; begins = first.0; all = outer.1 })
  | inr p ↦ absurd (let h : None ≡ Some digits = p.1 in cc)
]

digits_again : (x : ℕ) (digits : List ℕ) → (x == 120 || x == 88) ≡ true → IsTrue (begins_with is_hexadecimal digits) → IsTrue (list_all is_hexadecimal digits) → hexadecimal_digits (48 ∷ x ∷ digits) ≡ Some digits
digits_again x [] mark begins all = absurd (let h : false ≡ true = begins in cc)
digits_again x (d ∷ ds) mark begins all = ap (λ (t : Bool). cond t (Some (d ∷ ds)) None) (and_both (x == 120 || x == 88) (list_all is_hexadecimal (d ∷ ds)) mark all)

decimal_not : (bytes : List ℕ) → list_all is_digit bytes ≡ true → hexadecimal_digits bytes ≡ None
decimal_not bytes all = by_answer (hexadecimal_digits bytes) refl
  where
    by_answer : (o : Option (List ℕ)) → hexadecimal_digits bytes ≡ o → o ≡ None
    by_answer None e = refl
    by_answer (Some digits) e =
        let p = parts_of bytes digits e in
        let whole : list_all is_digit (48 ∷ p.mark ∷ digits) ≡ true = subst (λ (l : List ℕ). list_all is_digit l ≡ true) p.spelled all in
        let mark = and_cases (is_digit p.mark) (list_all is_digit digits) whole in
        true_not_false (is_digit p.mark) mark.0 (mark_no_digit p.mark p.is_mark)

-- ---- integers

pub integer_again : (n : ℕ) (bytes : List ℕ) (left : ℕ) → IsInteger n bytes → integer_of bytes left ≡ or_cause (within greatest n) (causes.NumberTooLarge, left)
integer_again n bytes left (inl d) =
    ap (λ (o : Option (List ℕ)). integer_by o bytes left) (decimal_not bytes d.1)
    ∙ ap (λ (t : Bool). cond t (or_cause (within greatest (value 10 bytes)) (causes.NumberTooLarge, left)) (Err (causes.BadNumeral, left))) d.1
    ∙ ap (λ (m : ℕ). or_cause (within greatest m) (causes.NumberTooLarge, left)) (sym d.2)
integer_again n bytes left (inr h) =
    ap (λ (l : List ℕ). integer_of l left) h.2
    ∙ ap (λ (o : Option (List ℕ)). integer_by o (48 ∷ h.0 ∷ h.1) left) (digits_again h.0 h.1 h.3 h.4 h.5)
    ∙ ap (λ (m : ℕ). or_cause (within greatest m) (causes.NumberTooLarge, left)) (sym h.6)

begins_decimal : (bytes : List ℕ) → begins_numeral bytes ≡ true → list_all is_digit bytes ≡ true → begins_with is_digit bytes ≡ true
begins_decimal [] begins all = absurd (let h : false ≡ true = begins in cc)
begins_decimal (b ∷ bs) begins all = (and_cases (is_digit b) (list_all is_digit bs) all).0

-- the answer of a numeral
pub record Answer (bytes : List ℕ) (left : ℕ) : Type 0 where
  pub n : ℕ
  pub is : IsInteger n bytes
  pub answer : integer_of bytes left ≡ or_cause (within greatest n) (causes.NumberTooLarge, left)

pub integer_answer : (bytes : List ℕ) (left : ℕ) → IsNumeral bytes → Answer bytes left ⊎ ((integer_of bytes left ≡ Err (causes.BadNumeral, left)) × ((n : ℕ) → IsInteger n bytes → ⊥))
integer_answer bytes left numeral = by_digits (hexadecimal_digits bytes) refl
  where
    answered : (n : ℕ) → IsInteger n bytes → Answer bytes left
    answered n is = record { n = n; is = is; answer = integer_again n bytes left is }

    refused : integer_of bytes left ≡ Err (causes.BadNumeral, left) → (n : ℕ) → IsInteger n bytes → ⊥
    refused e n is = by_within (within greatest n) (sym e ∙ integer_again n bytes left is)
      where
        by_within : (o : Option ℕ) → Err (causes.BadNumeral, left) ≡ or_cause o (causes.NumberTooLarge, left) → ⊥
        by_within None h = let g = ap (λ (f : Cause × ℕ). f.0) (err_is 0 (causes.BadNumeral, left) (causes.NumberTooLarge, left) h) in cc
        by_within (Some m) h = cc

    by_decimal : hexadecimal_digits bytes ≡ None → (t : Bool) → list_all is_digit bytes ≡ t → Answer bytes left ⊎ ((integer_of bytes left ≡ Err (causes.BadNumeral, left)) × ((n : ℕ) → IsInteger n bytes → ⊥))
    by_decimal none true e = inl (answered (value 10 bytes) (inl (begins_decimal bytes numeral.0 e, e, refl)))
    by_decimal none false e =
        let bad : integer_of bytes left ≡ Err (causes.BadNumeral, left) = ap (λ (o : Option (List ℕ)). integer_by o bytes left) none ∙ ap (λ (t : Bool). cond t (or_cause (within greatest (value 10 bytes)) (causes.NumberTooLarge, left)) (Err (causes.BadNumeral, left))) e in
        inr (bad, refused bad)

    by_digits : (o : Option (List ℕ)) → hexadecimal_digits bytes ≡ o → Answer bytes left ⊎ ((integer_of bytes left ≡ Err (causes.BadNumeral, left)) × ((n : ℕ) → IsInteger n bytes → ⊥))
    by_digits None e = by_decimal e (list_all is_digit bytes) refl
    by_digits (Some digits) e =
        let p = parts_of bytes digits e in
        inl (answered (value 16 digits) (inr (p.mark, digits, p.spelled, p.is_mark, p.begins, p.all, refl)))

-- ---- an integer is a numeral

digit_numeral : (b : ℕ) → is_digit b ≡ true → is_numeral_byte b ≡ true
digit_numeral b e = grind (arith, nat_tests)

mark_numeral : (b : ℕ) → (b == 120 || b == 88) ≡ true → is_numeral_byte b ≡ true
mark_numeral b e = grind (arith, nat_tests)

hexadecimal_cases : (b : ℕ) → is_hexadecimal b ≡ true → (is_digit b ≡ true) ⊎ (((leb 65 b && leb b 70) ≡ true) ⊎ ((leb 97 b && leb b 102) ≡ true))
hexadecimal_cases b e = first (is_digit b) refl
  where
    third : (u : Bool) → (leb 97 b && leb b 102) ≡ u → is_digit b ≡ false → (leb 65 b && leb b 70) ≡ false → (is_digit b ≡ true) ⊎ (((leb 65 b && leb b 70) ≡ true) ⊎ ((leb 97 b && leb b 102) ≡ true))
    third true g f h = inr (inr g)
    third false g f h = absurd (let k : is_some (digit_of b) ≡ true = e in let m : false ≡ true = rw (f, h, g) at k in cc)

    second : (u : Bool) → (leb 65 b && leb b 70) ≡ u → is_digit b ≡ false → (is_digit b ≡ true) ⊎ (((leb 65 b && leb b 70) ≡ true) ⊎ ((leb 97 b && leb b 102) ≡ true))
    second true h f = inr (inl h)
    second false h f = third (leb 97 b && leb b 102) refl f h

    first : (u : Bool) → is_digit b ≡ u → (is_digit b ≡ true) ⊎ (((leb 65 b && leb b 70) ≡ true) ⊎ ((leb 97 b && leb b 102) ≡ true))
    first true f = inl f
    first false f = second (leb 65 b && leb b 70) refl f

upper_numeral : (b : ℕ) → (leb 65 b && leb b 70) ≡ true → is_numeral_byte b ≡ true
upper_numeral b e = grind (arith, nat_tests)

lower_numeral : (b : ℕ) → (leb 97 b && leb b 102) ≡ true → is_numeral_byte b ≡ true
lower_numeral b e = grind (arith, nat_tests)

hexadecimal_numeral : (b : ℕ) → is_hexadecimal b ≡ true → is_numeral_byte b ≡ true
hexadecimal_numeral b e = elim (hexadecimal_cases b e) [
  | inl d ↦ digit_numeral b d
  | inr p ↦ elim p [ inl u ↦ upper_numeral b u | inr l ↦ lower_numeral b l ]
]

begins_so : (bytes : List ℕ) → begins_with is_digit bytes ≡ true → begins_numeral bytes ≡ true
begins_so [] e = absurd (let h : false ≡ true = e in cc)
begins_so (b ∷ bs) e = rw e refl

pub integer_numeral : (n : ℕ) (bytes : List ℕ) → IsInteger n bytes → IsNumeral bytes
integer_numeral n bytes (inl d) = (begins_so bytes d.0, mono is_digit is_numeral_byte digit_numeral bytes d.1)
integer_numeral n bytes (inr h) =
    subst (λ (l : List ℕ). IsNumeral l) (sym h.2) (refl, and_both (is_numeral_byte h.0) (list_all is_numeral_byte h.1) (mark_numeral h.0 h.3) (mono is_hexadecimal is_numeral_byte hexadecimal_numeral h.1 h.5))
