-- What the names that a folder of a disk has must be, to be answered as a listing.
use Rattle.std.specs.Prelude.{ℕ, List, ◌∷◌, ◌++◌, IsTrue}
use Rattle.std.specs.List.{AllByRecursion}
use Rattle.rocks_text.specs.Paths.{IsFolderOf}
use Rattle.rocks_text.specs.Texts.{is_file_path, is_tree_path}
use Rattle.rocks_outside.specs.Device.{IsAscending}

-- none of the paths lies below the folder
abbrev pub HasNoneBelow : (paths : List (List ℕ)) → (folder : List ℕ) → Type 0
HasNoneBelow paths folder = AllByRecursion (λ path. IsFolderOf folder path → ⊥) paths

-- the name is a path on a server, and so it is with the folder before it
abbrev pub IsPathBelow : (folder name : List ℕ) → Type 0
IsPathBelow folder name = IsTrue (is_file_path name) × IsTrue (is_file_path (folder ++ 47 ∷ name))

-- the names, each once and in byte order, can be those of a tree's files
abbrev pub IsTreeOfNames : (names : List (List ℕ)) → Type 0
IsTreeOfNames names = IsAscending names × AllByRecursion (λ name. IsTrue (is_tree_path name)) names

-- the names, each once and in byte order, can be those of the files below a server's folder
abbrev pub IsFolderOfNames : (folder : List ℕ) → (names : List (List ℕ)) → Type 0
IsFolderOfNames folder names =
    IsAscending names × AllByRecursion (HasNoneBelow names) names × AllByRecursion (IsPathBelow folder) names
