-- The value of digits, read one after another.
use Rattle.std.proofs.Common.{◌≡◌, ℕ, suc, ◌+◌, ◌-◌, ◌*◌, ◌/◌, ◌<◌, ◌≤◌, List, [], ◌∷◌, length, get_or, drop, None, ap, arith}
use Rattle.std.specs.Prelude.{fold, unwrap_or}
use Rattle.std.proofs.Math.Seq.{drop-cons}
use Rattle.std.proofs.Math.Nat.{mul-le-mul_left, mul_comm}
use Rattle.std.proofs.lemmas.Bool.Decides.{nat_tests}
use Rattle.lua_lexer.specs.Alphabet.{digit_of, value}
use Rattle.lua_lexer.specs.Reading.{within}

-- the value of further digits behind a number
abbrev pub value_from : ℕ → ℕ → List ℕ → ℕ
value_from base n digits = fold (λ n digit. n * base + unwrap_or (digit_of digit) 0) n digits

at_least : (base n w : ℕ) → 0 < base → n ≤ n * base + w
at_least base n w lt = omega (arith, mul-le-mul_left n lt)

pub grows : (base n : ℕ) (digits : List ℕ) → 0 < base → n ≤ value_from base n digits
grows base n [] lt = omega arith
grows base n (d ∷ ds) lt =
    let step = at_least base n (unwrap_or (digit_of d) 0) lt in
    let more = grows base (n * base + unwrap_or (digit_of d) 0) ds lt in
    omega arith

above : (limit n : ℕ) → limit < n → None ≡ within limit n
above limit n lt = grind (arith, nat_tests)

-- a number that passes the limit makes the whole pass it
pub passes : (limit base v i : ℕ) (digits : List ℕ) → 0 < base → i < length digits
    → value_from base v (drop i digits) ≡ value base digits
    → limit < v * base + unwrap_or (digit_of (get_or digits i 0)) 0 → None ≡ within limit (value base digits)
passes limit base v i digits base_lt lt so_far over =
    let cut : value_from base v (drop i digits) ≡ value_from base (v * base + unwrap_or (digit_of (get_or digits i 0)) 0) (drop (suc i) digits) = ap (value_from base v) (drop-cons digits i 0 lt) in
    let more = grows base (v * base + unwrap_or (digit_of (get_or digits i 0)) 0) (drop (suc i) digits) base_lt in
    above limit (value base digits) (omega arith)

pub over_quotient : (limit base v d : ℕ) → 0 < base → d ≤ limit → (limit - d) / base < v → limit < v * base + d
over_quotient limit base v d lt le over =
    let q : ℕ = (limit - d) / base in
    let m : (q + 1) * base ≤ v * base = rw (mul_comm (q + 1) base, mul_comm v base) (mul-le-mul_left base (omega arith)) in
    omega arith
