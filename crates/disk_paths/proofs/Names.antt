-- From all names of a list to one of them, and back.
use Rattle.std.proofs.Common.{◌≡◌, ◌≤◌, ◌<◌, ◌↔◌, ◌-◌, ℕ, List, [], ◌∷◌, length, map, take, drop, get_or, suc, zero, sym, subst, arith}
use Rattle.std.proofs.lemmas.List.{take_all}
use Rattle.std.specs.List.{AllByRecursion}

-- where the first one is known, the question is that of the names behind it
pub behind_first : {X : Type 0} (P : List ℕ → Type 0) (bytes : X → List ℕ) (names : List X) (first : X) (Q : Type 0) → 1 ≤ length names → first ≡ get_or names 0 first → P (bytes first)
    → (AllByRecursion P (map bytes names) ↔ Q) → (AllByRecursion P (map bytes (take (length names - 1) (drop 1 names))) ↔ Q)
behind_first P bytes [] first Q some is holds all = absurd (omega arith)
behind_first P bytes (name ∷ names) first Q some is holds all =
    let rest : take (length (name ∷ names) - 1) names ≡ names = take_all (length (name ∷ names) - 1) names (omega arith) in
    subst (λ behind. AllByRecursion P (map bytes behind) ↔ Q) (sym rest) ((λ others. all.0 (subst (λ n. P (bytes n)) is holds, others)), (λ q. (all.1 q).1))

-- what holds of all names holds of the one at a place
pub at_place : {X : Type 0} (P : List ℕ → Type 0) (bytes : X → List ℕ) (names : List X) (place : ℕ) (name : X) → place < length names → name ≡ get_or names place name → AllByRecursion P (map bytes names) → P (bytes name)
at_place P bytes [] place name within is all = absurd (omega arith)
at_place P bytes (first ∷ names) zero name within is all = subst (λ n. P (bytes n)) (sym is) all.0
at_place P bytes (first ∷ names) (suc place) name within is all = at_place P bytes names place name (omega arith) is all.1
