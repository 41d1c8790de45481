-- Files as a finite map from paths to bytes.
use Rattle.std.specs.Prelude.{ℕ, List, IsSome}
use Rattle.std.specs.Ordering.{nat_cmp}
use Rattle.std.specs.declared.cmp.Ordering.{Ordering}
use Rattle.std.specs.Cmp.Lexicographic.{slice_cmp}
use Rattle.std.specs.FinMap.{FinMap, get}
use Rattle.rocks_text.specs.Paths.{IsFolderOf}

-- paths go by their bytes, compared as unsigned numbers
abbrev pub path_cmp : List ℕ → List ℕ → Ordering
path_cmp = slice_cmp nat_cmp

-- what each path holds; a path that isn't there holds nothing
abbrev pub Files : Type 0
Files = FinMap path_cmp (List ℕ)

-- no path that holds something is a folder of another
abbrev pub HasNoFileAsFolder : Files → Type 0
HasNoFileAsFolder files = (folder path : List ℕ)
    → IsSome (get files folder) → IsSome (get files path) → IsFolderOf folder path → ⊥
