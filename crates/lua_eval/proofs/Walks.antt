-- Steps along lists, from a place on.
use Rattle.std.proofs.Common.{◌≡◌, ℕ, zero, suc, ◌+◌, List, [], ◌∷◌, drop, Some, ap, add-one}
use Rattle.std.specs.List.{slice_get}

-- what is left at a place begins with the member there
pub drop-member : {A : Type 0} (xs : List A) (i : ℕ) (x : A) → slice_get xs i ≡ Some x → drop i xs ≡ x ∷ drop (i + 1) xs
drop-member xs i x at = rw add-one (by_suc xs i x at)
  where
    by_suc : {A : Type 0} (xs : List A) (i : ℕ) (x : A) → slice_get xs i ≡ Some x → drop i xs ≡ x ∷ drop (suc i) xs
    by_suc [] i x at = cc
    by_suc (y ∷ xs) zero x at = let same : y ≡ x = cc in ap (λ z. z ∷ xs) same
    by_suc (y ∷ xs) (suc i) x at = by_suc xs i x at
