-- The pairs of words `--from DIR` at the front of a list of words end where fewer than two words are left.
use Rattle.std.proofs.Common.{◌≡◌, ◌<◌, ℕ, List, [], ◌∷◌, length, map, refl, arith}
use Rattle.rocks_command.specs.Words.{after_from, from_folders}

pub few_after : {A : Type 0} (f : A → List ℕ) (words : List A) → length words < 2 → after_from (map f words) ≡ map f words
few_after f [] few = refl
few_after f (word ∷ []) few = refl
few_after f (word ∷ other ∷ words) few = absurd (omega arith)

pub few_from : {A : Type 0} (f : A → List ℕ) (words : List A) → length words < 2 → from_folders (map f words) ≡ []
few_from f [] few = refl
few_from f (word ∷ []) few = refl
few_from f (word ∷ other ∷ words) few = absurd (omega arith)
