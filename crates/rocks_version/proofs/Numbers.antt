-- How long the numbers of a text are.
use Rattle.std.proofs.Common.{◌≡◌, ℕ, zero, suc, ◌+◌, ◌<◌, ◌≤◌, List, [], ◌∷◌, ◌++◌, length, drop, take, get_or, refl, ap, ◌∙◌, true, false, not, Bool, cond, arith, nat_lt, nat_le, ◌&&◌}
use Rattle.std.specs.List.{prefix_len, list_all}
use Rattle.std.specs.Char.{is_ascii_digit}
use Rattle.std.proofs.lemmas.Bool.Decides.{nat_tests}
use Rattle.std.proofs.Math.Numerals.{one-add}
use Rattle.std.proofs.lemmas.Bool.{le-leb}
use Rattle.std.proofs.lemmas.List.{drop_at, drop_more}
use Rattle.rocks_version.specs.Texts.{has_short_numbers}
use Rattle.rocks_version.specs.Faults.{long_number_place}

one_more : (run place count : ℕ) (short : Bool) → nat_lt place count ≡ not short
    → nat_lt (cond (nat_lt 18 run) 0 (place + 1)) (suc count) ≡ not (nat_le run 18 && short)
one_more run place count true h = grind (arith, nat_tests)
one_more run place count false h = grind (arith, nat_tests)

-- there is a place of a long number exactly where not all are short
pub long_numbers : (text : List ℕ) → nat_lt (long_number_place text) (length text) ≡ not (has_short_numbers text)
long_numbers [] = refl
long_numbers (b ∷ bs) =
    one_more (prefix_len is_ascii_digit (b ∷ bs)) (long_number_place bs) (length bs) (has_short_numbers bs) (long_numbers bs)

next : (b : ℕ) (bs : List ℕ) → prefix_len is_ascii_digit (b ∷ bs) ≤ 18 → long_number_place (b ∷ bs) ≡ long_number_place bs + 1
next b bs h = grind (arith, nat_tests)

-- where a short number or none stands, the place is behind it
pub long_number_next : (text : List ℕ) (i : ℕ) → i < length text → prefix_len is_ascii_digit (drop i text) ≤ 18
    → long_number_place (drop i text) ≡ long_number_place (drop (i + 1) text) + 1
long_number_next text i h short =
    let front = drop_more text i 0 h in
    ap long_number_place front ∙ next (get_or text i 0) (drop (i + 1) text) (rw front at short)

pub and_left : (a b : Bool) → (a && b) ≡ true → a ≡ true
and_left true b h = refl
and_left false b h = cc

pub and_right : (a b : Bool) → (a && b) ≡ true → b ≡ true
and_right true b h = h
and_right false b h = cc

-- what stands behind a place of a text of short numbers is one too
pub short_drop : (text : List ℕ) (i : ℕ) → has_short_numbers text ≡ true → has_short_numbers (drop i text) ≡ true
short_drop text zero h = h
short_drop [] (suc i) h = refl
short_drop (b ∷ bs) (suc i) h = short_drop bs i (and_right (nat_le (prefix_len is_ascii_digit (b ∷ bs)) 18) (has_short_numbers bs) h)

-- a text of short numbers begins with at most 18 digits
pub short_front : (text : List ℕ) → has_short_numbers text ≡ true → prefix_len is_ascii_digit text ≤ 18
short_front [] h = omega arith
short_front (b ∷ bs) h =
    let first = and_left (nat_le (prefix_len is_ascii_digit (b ∷ bs)) 18) (has_short_numbers bs) h in
    grind (arith, nat_tests)

shorter_front : (i : ℕ) (text : List ℕ) → prefix_len is_ascii_digit (take i text) ≤ prefix_len is_ascii_digit text
shorter_front zero text = omega arith
shorter_front (suc i) [] = omega arith
shorter_front (suc i) (b ∷ bs) =
    let rest = shorter_front i bs in
    elim (is_ascii_digit b) as (λ d. cond d (1 + prefix_len is_ascii_digit (take i bs)) 0 ≤ cond d (1 + prefix_len is_ascii_digit bs) 0) [ true ↦ omega arith | false ↦ omega arith ]

both : (a b : Bool) → a ≡ true → b ≡ true → (a && b) ≡ true
both true b p q = q
both false b p q = cc

-- so is what stands before a place
pub short_take : (text : List ℕ) (i : ℕ) → has_short_numbers text ≡ true → has_short_numbers (take i text) ≡ true
short_take text zero h = refl
short_take [] (suc i) h = refl
short_take (b ∷ bs) (suc i) h =
    let here = short_front (b ∷ bs) h in
    let less = shorter_front (suc i) (b ∷ bs) in
    both (nat_le (prefix_len is_ascii_digit (take (suc i) (b ∷ bs))) 18) (has_short_numbers (take i bs)) (le-leb _ 18 (omega arith))
    (short_take bs i (and_right (nat_le (prefix_len is_ascii_digit (b ∷ bs)) 18) (has_short_numbers bs) h))

-- digits alone are as many as the text begins with
pub prefix_len-all : (p : ℕ → Bool) (text : List ℕ) → list_all p text ≡ true → prefix_len p text ≡ length text
prefix_len-all p [] h = refl
prefix_len-all p (b ∷ bs) h =
    let rest = prefix_len-all p bs (and_right (p b) (list_all p bs) h) in
    rw (and_left (p b) (list_all p bs) h) (omega arith)

-- what a text begins with passes the test
pub front_passes : (p : ℕ → Bool) (text : List ℕ) → list_all p (take (prefix_len p text) text) ≡ true
front_passes p [] = refl
front_passes p (b ∷ bs) =
    elim (p b) as (λ t. p b ≡ t → list_all p (take (cond t (1 + prefix_len p bs) 0) (b ∷ bs)) ≡ true) [
      | true ↦ λ yes. rw (one-add (prefix_len p bs)) (both (p b) (list_all p (take (prefix_len p bs) bs)) yes (front_passes p bs))
      | false ↦ λ no. refl
    ] refl

digits_counted : (digits after : List ℕ) → list_all is_ascii_digit digits ≡ true → length digits ≤ prefix_len is_ascii_digit (digits ++ after)
digits_counted [] after all = omega arith
digits_counted (b ∷ bs) after all =
    let rest = digits_counted bs after (and_right (is_ascii_digit b) (list_all is_ascii_digit bs) all) in
    rw (and_left (is_ascii_digit b) (list_all is_ascii_digit bs) all) (omega arith)

-- digits in a row are few
pub few_in_a_row : (before digits after : List ℕ) → has_short_numbers (before ++ (digits ++ after)) ≡ true → list_all is_ascii_digit digits ≡ true → length digits ≤ 18
few_in_a_row before digits after short all =
    let rest = rw (drop_at before (digits ++ after) (length before) refl) at (short_drop (before ++ (digits ++ after)) (length before) short) in
    let few = short_front (digits ++ after) rest in
    let counted = digits_counted digits after all in
    omega arith
