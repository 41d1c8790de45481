-- Texts that end in a revision.
use Rattle.std.proofs.Common.{◌≡◌, ℕ, zero, suc, ◌+◌, ◌-◌, ◌<◌, ◌≤◌, List, ◌∷◌, ◌++◌, length, take, drop, get_or, reverse, refl, sym, ap, ◌∙◌, true, false, not, Bool, arith, nat_le, nat_lt, ◌&&◌, Some}
use borrow.Author.Tests.{ltb-true}
use Rattle.std.specs.List.{list_all, suffix_len}
use Rattle.std.specs.Char.{is_ascii_digit}
use Rattle.std.specs.Str.Parse.{digits_value}
use Rattle.std.proofs.lemmas.Bool.Decides.{nat_tests}
use Rattle.std.proofs.lemmas.List.{drop-drop, drop_at, drop_more, get_or-append_right, get_or-reverse, get_or_at, length-append, length-reverse, length-take-le, take-append-drop, take_at}
use Rattle.std.proofs.lemmas.List.Sums.{prefix_len_stops, suffix_len_is}
use Rattle.rocks_version.specs.Texts.{is_dash, is_numeral, has_revision, body, revision}
use Rattle.rocks_version.proofs.Numbers.{and_left, and_right}
use Rattle.rocks_version.proofs.Parts.{behind_dash, revision_is}
use Rattle.rocks_version.proofs.Values.{digit_at}

digit_no_dash : (b : ℕ) → is_ascii_digit b ≡ true → not (is_dash b) ≡ true
digit_no_dash b h = grind (arith, nat_tests)

no_dash_behind : (digits : List ℕ) (i : ℕ) → list_all is_ascii_digit digits ≡ true → 0 < i → i < suc (length digits) → not (is_dash (get_or (45 ∷ digits) i 0)) ≡ true
no_dash_behind digits zero all some within = absurd (omega arith)
no_dash_behind digits (suc i) all some within = digit_no_dash (get_or digits i 0) (digit_at digits i all (omega arith))

module _ (before digits : List ℕ) (some : 1 ≤ length before) (numeral : is_numeral digits ≡ true) where
  all_digits : list_all is_ascii_digit digits ≡ true
  all_digits = and_right (nat_le 1 (length digits)) (list_all is_ascii_digit digits) numeral

  behind_is : behind_dash (before ++ 45 ∷ digits) ≡ length before + 1
  behind_is =
      let text = before ++ 45 ∷ digits in
      let size = length-append before (45 ∷ digits) in
      let count = suffix_len_is (λ b. not (is_dash b)) text (length before + 1) 0 (omega arith)
      (λ k from within. rw (get_or-append_right before (45 ∷ digits) (length before) k 0 refl (omega arith)) (no_dash_behind digits (k - length before) all_digits (omega arith) (omega arith)))
      (λ _. rw (get_or_at before 45 digits 0 (length before + 1 - 1) (omega arith)) refl) in
      omega arith

  rest_is : drop (length before + 1) (before ++ 45 ∷ digits) ≡ digits
  rest_is = sym (drop-drop 1 (length before) (before ++ 45 ∷ digits)) ∙ ap (λ (l : List ℕ). drop 1 l) (drop_at before (45 ∷ digits) (length before) refl)

  revised : has_revision (before ++ 45 ∷ digits) ≡ true
  revised =
      let enough : nat_lt 1 (length before + 1) ≡ true = grind (arith, nat_tests) in
      revision_is (before ++ 45 ∷ digits) ∙ rw (behind_is, rest_is, enough) numeral

  pub body_read : body (before ++ 45 ∷ digits) ≡ before
  unfolding body
  body_read =
      let less : length before + 1 - 1 ≡ length before = omega arith in
      rw (revised, behind_is, less) (take_at before (45 ∷ digits) (length before) refl)

  pub revision_read : revision (before ++ 45 ∷ digits) ≡ Some (digits_value 10 digits)
  unfolding revision
  revision_read = rw (revised, behind_is, rest_is) refl

not_false : (b : Bool) → not b ≡ false → b ≡ true
not_false true h = refl
not_false false h = cc

-- the byte before that place is a dash, where there is one
dash_there : (text : List ℕ) → 1 < behind_dash text → is_dash (get_or text (behind_dash text - 1) 0) ≡ true
dash_there text some =
    let count = suffix_len (λ b. not (is_dash b)) text in
    let size = length-reverse text in
    let stops = prefix_len_stops (λ b. not (is_dash b)) (reverse text) 0 (omega arith) in
    let place : length text - 1 - count ≡ behind_dash text - 1 = omega arith in
    let here = get_or-reverse text count 0 (omega arith) ∙ ap (λ i. get_or text i 0) place in
    ap is_dash (sym here) ∙ not_false (is_dash (get_or (reverse text) count 0)) stops

dash_is : (b : ℕ) → is_dash b ≡ true → b ≡ 45
dash_is b h = grind (arith, nat_tests)

-- a text that has a revision is its body, a dash and digits
module _ (text : List ℕ) (has : has_revision text ≡ true) where
  both : (nat_lt 1 (behind_dash text) && is_numeral (drop (behind_dash text) text)) ≡ true
  both = sym (revision_is text) ∙ has

  some : 1 < behind_dash text
  some = let test = and_left (nat_lt 1 (behind_dash text)) (is_numeral (drop (behind_dash text) text)) both in ltb-true 1 (behind_dash text) test

  pub numeral_spelled : is_numeral (drop (behind_dash text) text) ≡ true
  numeral_spelled = and_right (nat_lt 1 (behind_dash text)) (is_numeral (drop (behind_dash text) text)) both

  body_is : body text ≡ take (behind_dash text - 1) text
  unfolding body
  body_is = rw has refl

  pub body_some : 1 ≤ length (body text)
  body_some =
      let there = some in
      let size = length-take-le (behind_dash text - 1) text (omega arith) in
      rw (body_is, size) (omega arith)

  rest_spelled : drop (behind_dash text - 1) text ≡ 45 ∷ drop (behind_dash text) text
  rest_spelled =
      let there = some in
      let next : behind_dash text - 1 + 1 ≡ behind_dash text = omega arith in
      let dash = dash_is (get_or text (behind_dash text - 1) 0) (dash_there text there) in
      drop_more text (behind_dash text - 1) 0 (omega arith) ∙ rw (next, dash) refl

  pub text_spelled : text ≡ body text ++ 45 ∷ drop (behind_dash text) text
  text_spelled =
      sym (take-append-drop (behind_dash text - 1) text) ∙ ap (λ rest. take (behind_dash text - 1) text ++ rest) rest_spelled ∙ ap (λ front. front ++ 45 ∷ drop (behind_dash text) text) (sym body_is)
