-- A text made of items that stand one after another (this project's own words).
use Rattle.std.specs.Prelude.{ℕ, List, [], ◌∷◌, ◌++◌}
use Rattle.std.specs.List.{flat_map}

-- The items stand one after another, and then what comes after them: each item fits before what follows it.
abbrev pub InTurn : {X : Type 0} → (X → List ℕ) → (X → List ℕ → Type 0) → List X → List ℕ → Type 0
InTurn bytes_of Fits [] after = Unit {0}
InTurn bytes_of Fits (x ∷ xs) after = Fits x (flat_map bytes_of xs ++ after) × InTurn bytes_of Fits xs after
