-- Paths within folders: what joins them, and what takes them apart.
use Rattle.std.specs.Prelude.{ℕ, ◌≡◌, ◌+◌, List, [], ◌∷◌, ◌++◌, length, drop, if◌then◌else◌, Option, Some, None}
use Rattle.std.specs.List.{starts_with}
use Rattle.std.specs.Bool.{nat_eq}

-- FOLDER/PATH
abbrev pub joined : (folder path : List ℕ) → List ℕ
joined folder path = folder ++ 47 ∷ path

-- the path is that of a folder of the other
abbrev pub IsFolderOf : (folder path : List ℕ) → Type 0
IsFolderOf folder path = (rest : List ℕ) × (path ≡ joined folder rest)

-- the path from a folder on, for a path below it
abbrev pub below : (folder path : List ℕ) → Option (List ℕ)
below folder path = if starts_with nat_eq path (folder ++ 47 ∷ []) then Some (drop (length folder + 1) path) else None
