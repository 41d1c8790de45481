-- The longest front of bytes that pass a test, and what follows it.
use Rattle.std.proofs.Common.{◌≡◌, ℕ, zero, suc, ◌<◌, ◌≤◌, Bool, true, false, cond, ◌&&◌, List, [], ◌∷◌, ◌++◌, length, take, drop, refl, ap, ◌∙◌, length-append, arith}
use Rattle.std.specs.Prelude.{IsTrue, IsFalse}
use Rattle.std.specs.List.{list_all}
use Rattle.lua_lexer.specs.Alphabet.{begins_with}
use Rattle.lua_lexer.specs.Reading.{run, after_run}

pub run_then_rest : (test : ℕ → Bool) (bytes : List ℕ) → run test bytes ++ after_run test bytes ≡ bytes
run_then_rest test [] = refl
run_then_rest test (b ∷ bs) = at_head (test b) (run_then_rest test bs)
  where
    at_head : (t : Bool) → run test bs ++ after_run test bs ≡ bs → cond t (b ∷ run test bs) [] ++ cond t (after_run test bs) (b ∷ bs) ≡ b ∷ bs
    at_head true e = ap (λ (l : List ℕ). b ∷ l) e
    at_head false e = refl

and_true : (a b : Bool) → a ≡ true → b ≡ true → (a && b) ≡ true
and_true true b p q = q
and_true false b p q = absurd cc

pub run_passes : (test : ℕ → Bool) (bytes : List ℕ) → IsTrue (list_all test (run test bytes))
run_passes test [] = refl
run_passes test (b ∷ bs) = at_head (test b) refl (run_passes test bs)
  where
    at_head : (t : Bool) → test b ≡ t → IsTrue (list_all test (run test bs)) → IsTrue (list_all test (cond t (b ∷ run test bs) []))
    at_head true e more = and_true (test b) (list_all test (run test bs)) e more
    at_head false e more = refl

pub rest_stops : (test : ℕ → Bool) (bytes : List ℕ) → IsFalse (begins_with test (after_run test bytes))
rest_stops test [] = refl
rest_stops test (b ∷ bs) = at_head (test b) refl (rest_stops test bs)
  where
    at_head : (t : Bool) → test b ≡ t → IsFalse (begins_with test (after_run test bs)) → IsFalse (begins_with test (cond t (after_run test bs) (b ∷ bs)))
    at_head true e more = more
    at_head false e more = e

pub and_parts : (a b : Bool) → (a && b) ≡ true → (a ≡ true) × (b ≡ true)
and_parts true b e = (refl, e)
and_parts false b e = absurd cc

-- a front that passes, and that no byte goes on with, is the run
pub run_is : (test : ℕ → Bool) (front rest : List ℕ) → IsTrue (list_all test front) → IsFalse (begins_with test rest)
    → (run test (front ++ rest) ≡ front) × (after_run test (front ++ rest) ≡ rest)
run_is test [] [] all stops = (refl, refl)
run_is test [] (b ∷ bs) all stops = (ap (λ (t : Bool). cond t (b ∷ run test bs) []) stops, ap (λ (t : Bool). cond t (after_run test bs) (b ∷ bs)) stops)
run_is test (b ∷ bs) rest all stops =
    let both = and_parts (test b) (list_all test bs) all in
    let more = run_is test bs rest both.1 stops in (
      ap (λ (t : Bool). cond t (b ∷ run test (bs ++ rest)) []) both.0 ∙ ap (λ (l : List ℕ). b ∷ l) more.0,
      ap (λ (t : Bool). cond t (after_run test (bs ++ rest)) (b ∷ (bs ++ rest))) both.0 ∙ more.1,
    )

pub rest_length : (test : ℕ → Bool) (bytes : List ℕ) → length (after_run test bytes) ≤ length bytes
rest_length test bytes =
    let e = ap length (run_then_rest test bytes) in
    let s = length-append (run test bytes) (after_run test bytes) in
    omega arith

-- ---- a run of at most so many bytes

pub limited_then_rest : (test : ℕ → Bool) (n : ℕ) (l : List ℕ) → run test (take n l) ++ drop (length (run test (take n l))) l ≡ l
limited_then_rest test zero l = refl
limited_then_rest test (suc n) [] = refl
limited_then_rest test (suc n) (b ∷ bs) = at_head (test b) (limited_then_rest test n bs)
  where
    at_head : (t : Bool) → run test (take n bs) ++ drop (length (run test (take n bs))) bs ≡ bs
        → cond t (b ∷ run test (take n bs)) [] ++ drop (length (cond t (b ∷ run test (take n bs)) [])) (b ∷ bs) ≡ b ∷ bs
    at_head true e = ap (λ (l : List ℕ). b ∷ l) e
    at_head false e = refl

pub limited_length : (test : ℕ → Bool) (n : ℕ) (l : List ℕ) → length (run test (take n l)) ≤ n
limited_length test zero l = omega arith
limited_length test (suc n) [] = omega arith
limited_length test (suc n) (b ∷ bs) = at_head (test b) (limited_length test n bs)
  where
    at_head : (t : Bool) → length (run test (take n bs)) ≤ n → length (cond t (b ∷ run test (take n bs)) []) ≤ suc n
    at_head true e = omega arith
    at_head false e = omega arith

pub limited_stops : (test : ℕ → Bool) (n : ℕ) (l : List ℕ) → length (run test (take n l)) < n → IsFalse (begins_with test (drop (length (run test (take n l))) l))
limited_stops test zero l lt = absurd (omega arith)
limited_stops test (suc n) [] lt = refl
limited_stops test (suc n) (b ∷ bs) lt = at_head (test b) refl (limited_stops test n bs) lt
  where
    at_head : (t : Bool) → test b ≡ t → (length (run test (take n bs)) < n → IsFalse (begins_with test (drop (length (run test (take n bs))) bs)))
        → length (cond t (b ∷ run test (take n bs)) []) < suc n → IsFalse (begins_with test (drop (length (cond t (b ∷ run test (take n bs)) [])) (b ∷ bs)))
    at_head true e more lt' = more (omega arith)
    at_head false e more lt' = e

pub limited_is : (test : ℕ → Bool) (n : ℕ) (front rest : List ℕ) → IsTrue (list_all test front) → length front ≤ n
    → (length front < n → IsFalse (begins_with test rest)) → run test (take n (front ++ rest)) ≡ front
limited_is test zero [] rest all le stops = refl
limited_is test zero (b ∷ bs) rest all le stops = absurd (omega arith)
limited_is test (suc n) [] [] all le stops = refl
limited_is test (suc n) [] (b ∷ bs) all le stops = ap (λ (t : Bool). cond t (b ∷ run test (take n bs)) []) (stops (omega arith))
limited_is test (suc n) (b ∷ bs) rest all le stops =
    let both = and_parts (test b) (list_all test bs) all in
    ap (λ (t : Bool). cond t (b ∷ run test (take n (bs ++ rest))) []) both.0
    ∙ ap (λ (l : List ℕ). b ∷ l) (limited_is test n bs rest both.1 (omega arith) (λ lt. stops (omega arith)))
