-- What an ordered map holds as files, and where a new file may stand among files.
use Rattle.std.specs.Prelude.{ℕ, ◌⊎◌, Bool, ◌||◌, List, IsSome, is_some, slice_index_or, slice_set}
use Rattle.std.specs.BTreeMap.{BTreeMap}
use Rattle.std.specs.FinMap.{from_entries, get, insert, empty}
use Rattle.rocks_text.specs.Files.{Files}
use Rattle.rocks_text.specs.Paths.{below, IsFolderOf}

-- the files that an ordered map from paths to bytes stands for
unfoldable pub files_of : BTreeMap (List ℕ) (List ℕ) → Files
files_of m = from_entries m.entries

-- the path would be a folder of a path that holds something, or below one
abbrev pub Clashes : (path : List ℕ) → Files → Type 0
Clashes path files = (held : List ℕ) × IsSome (get files held) × (IsFolderOf path held ⊎ IsFolderOf held path)

-- whether a held path is the one that it clashes with
abbrev pub is_in_the_way : (path held : List ℕ) → Bool
is_in_the_way path held = is_some (below path held) || is_some (below held path)

-- the servers with a file put on one of them
abbrev pub with_file : List Files → (server : ℕ) → (path bytes : List ℕ) → List Files
with_file servers server path bytes = slice_set servers server (insert (slice_index_or servers server empty) path bytes)
