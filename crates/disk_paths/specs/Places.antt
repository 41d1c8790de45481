-- Paths of a file system.
use Rattle.std.specs.Prelude.{ℕ, ◌==◌, if◌then◌else◌, List, [], ◌∷◌, ◌++◌, map}

-- a name in a folder; the folder with the empty name is left out
abbrev pub joined : (folder name : List ℕ) → List ℕ
joined [] name = name
joined (byte ∷ folder) name = (byte ∷ folder) ++ 47 ∷ name

-- a path below a folder; the empty path is that of the folder itself
abbrev pub whole_of : (folder path : List ℕ) → List ℕ
whole_of folder [] = folder
whole_of folder (byte ∷ path) = joined folder (byte ∷ path)

-- the folders that a relative path names, the outermost first: what stands before each of its slashes
abbrev pub folders_of : (path : List ℕ) → List (List ℕ)
folders_of [] = []
folders_of (byte ∷ path) =
    (if byte == 47 then [] ∷ [] else []) ++ map (λ folder. byte ∷ folder) (folders_of path)

-- what a change at a relative path makes anew: itself, the folders above it, and the tree's own folder
abbrev pub changed_at : (path : List ℕ) → List (List ℕ)
changed_at path = folders_of path ++ path ∷ [] ∷ []

-- a folder of the file system; the one with the empty name is the topmost
abbrev pub or_top : (folder : List ℕ) → List ℕ
or_top [] = 47 ∷ []
or_top (byte ∷ folder) = byte ∷ folder
