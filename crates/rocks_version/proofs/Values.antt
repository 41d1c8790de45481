-- The value of a few digits.
use Rattle.std.proofs.Common.{◌≡◌, ℕ, zero, suc, ◌+◌, ◌-◌, ◌*◌, ◌^◌, ◌<◌, ◌≤◌, List, [], ◌∷◌, length, take, get_or, true, arith}
use Rattle.std.specs.List.{list_all}
use Rattle.std.specs.Char.{is_ascii_digit, digit_value}
use Rattle.std.specs.Str.Parse.{digits_value, AllDigits}
use Rattle.std.proofs.lemmas.Bool.Decides.{nat_tests}
use Rattle.std.proofs.lemmas.Int.Digits.{digits_value-lt, digits_value_more}
use Rattle.std.proofs.lemmas.List.{length-take-le}
use Rattle.std.proofs.Math.Nat.{pow-le-pow_right}
use Rattle.rocks_version.proofs.Numbers.{and_left, and_right}

digit_below : (b : ℕ) → is_ascii_digit b ≡ true → digit_value b < 10
digit_below b h = grind (arith, nat_tests)

digit_is : (b : ℕ) → is_ascii_digit b ≡ true → digit_value b ≡ b - 48
digit_is b h = grind (arith, nat_tests)

front_digits : (digits : List ℕ) (i : ℕ) → list_all is_ascii_digit digits ≡ true → AllDigits 10 (take i digits)
front_digits digits zero h = tt
front_digits [] (suc i) h = tt
front_digits (b ∷ bs) (suc i) h =
    (digit_below b (and_left (is_ascii_digit b) (list_all is_ascii_digit bs) h), front_digits bs i (and_right (is_ascii_digit b) (list_all is_ascii_digit bs) h))

pub digit_at : (digits : List ℕ) (i : ℕ) → list_all is_ascii_digit digits ≡ true → i < length digits → is_ascii_digit (get_or digits i 0) ≡ true
digit_at [] i h within = absurd (omega arith)
digit_at (b ∷ bs) zero h within = and_left (is_ascii_digit b) (list_all is_ascii_digit bs) h
digit_at (b ∷ bs) (suc i) h within = digit_at bs i (and_right (is_ascii_digit b) (list_all is_ascii_digit bs) h) (omega arith)

-- one digit more, and how large the number is then
pub next_value : (digits : List ℕ) (i : ℕ) → list_all is_ascii_digit digits ≡ true → length digits ≤ 18 → i < length digits
    → (digits_value 10 (take i digits) * 10 + (get_or digits i 0 - 48) ≡ digits_value 10 (take (i + 1) digits)) × (digits_value 10 (take (i + 1) digits) < 10 ^ 18)
next_value digits i all few within =
    let more = digits_value_more 10 digits i within in
    let digit = digit_is (get_or digits i 0) (digit_at digits i all within) in
    let below = digits_value-lt 10 (take (i + 1) digits) (front_digits digits (i + 1) all) in
    let count = length-take-le (i + 1) digits (omega arith) in
    let most : 10 ^ (i + 1) ≤ 10 ^ 18 = pow-le-pow_right (omega arith) {i = i + 1} {j = 18} (omega arith) in
    let below_here = rw count at below in
    (omega arith, omega arith)
