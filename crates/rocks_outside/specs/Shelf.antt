-- What a shelf is, to contracts, and what its calls answer. A shelf is a list of servers, each a map from paths to bytes.
use Rattle.std.specs.Prelude.{ℕ, ◌≡◌, ◌<◌, ◌≤◌, IsTrue, List, [], length, Option, None, Some, IfSome, Result, Ok, Err, slice_get}
use Rattle.std.specs.List.{filter_map, AllByRecursion, Contains}
use Rattle.std.specs.FinMap.{get, keys}
use Rattle.rocks_text.specs.Files.{Files, HasNoFileAsFolder}
use Rattle.rocks_text.specs.Paths.{joined, below, IsFolderOf}
use Rattle.rocks_text.specs.Texts.{is_file_path}
use Rattle.rocks_outside.specs.Counts.{HasRisen}
use Rattle.rocks_outside.specs.Device.{IsAscending}
use Rattle.rocks_outside.specs.declared.shelf.ShelfError.{ShelfError}
use Rattle.rocks_outside.specs.declared.shelf.ShelfError.TheVariants.{Failed, NoMemory}
use Rattle.rocks_outside.specs.declared.shelf.ShelfRead.{ShelfRead}
use Rattle.rocks_outside.specs.declared.shelf.ShelfRead.TheVariants.{Absent, TooLong, Bytes}

-- A shelf at one moment.
pub record ShelfState : Type 0 where
  -- the files of each server, or none where the shelf doesn't tell them
  pub holds : Option (List Files)
  -- how many servers there are
  pub servers : ℕ
  -- how often the shelf has failed
  pub faults : ℕ

-- what a server holds at a path
abbrev pub held_at : List Files → (server : ℕ) → (path : List ℕ) → Option (List ℕ)
held_at servers server path = held (slice_get servers server)
  where
    held : Option Files → Option (List ℕ)
    held None = None
    held (Some files) = get files path

-- the answer of a read with a limit in bytes
abbrev pub IsRead : (limit : ℕ) → Option (List ℕ) → ShelfRead → Type 0
IsRead limit held Absent = held ≡ None
IsRead limit held TooLong = (bytes : List ℕ) × (held ≡ Some bytes) × (limit < length bytes)
IsRead limit held (Bytes bytes) = (held ≡ Some bytes) × (length bytes ≤ limit)

-- also where a shelf doesn't tell what it holds
abbrev pub IsWithin : (limit : ℕ) → ShelfRead → Type 0
IsWithin limit Absent = Unit {0}
IsWithin limit TooLong = Unit {0}
IsWithin limit (Bytes bytes) = length bytes ≤ limit

-- the paths below a folder of some files, relative to it, in byte order
abbrev pub paths_below : (folder : List ℕ) → Files → List (List ℕ)
paths_below folder files = filter_map (below folder) (keys files)

-- the same of one server
abbrev pub held_below : List Files → (server : ℕ) → (folder : List ℕ) → List (List ℕ)
held_below servers server folder = listed (slice_get servers server)
  where
    listed : Option Files → List (List ℕ)
    listed None = []
    listed (Some files) = paths_below folder files

-- what each listing is, also where a shelf doesn't tell what it holds
pub record IsFolderListing (folder : List ℕ) (paths : List (List ℕ)) : Type 0 where
  pub ascending : IsAscending paths
  pub are_paths : AllByRecursion (λ path. IsTrue (is_file_path (joined folder path))) paths
  pub apart : (path other : List ℕ) → Contains paths path → Contains paths other → IsFolderOf path other → ⊥

-- The count of faults rises where the call failed, and stands still otherwise.
abbrev pub CountsFaults : {T : Type 0} → Result T ShelfError → ℕ → ℕ → Type 0
CountsFaults (Ok done) before now = now ≡ before
CountsFaults (Err Failed) before now = (before ≤ now) × HasRisen before now
CountsFaults (Err NoMemory) before now = now ≡ before

-- Each call leaves what the servers hold and how many they are.
pub record AsksOnly {T : Type 0} (result : Result T ShelfError) (before now : ShelfState) : Type 0 where
  pub holds : now.holds ≡ before.holds
  pub servers : now.servers ≡ before.servers
  pub faults : CountsFaults result before.faults now.faults

-- a shelf that tells what it holds tells it of each server, and no path of a file is that of a folder of another
pub record IsShelf (shelf : ShelfState) : Type 0 where
  pub each : IfSome shelf.holds (λ servers. length servers ≡ shelf.servers)
  pub apart : IfSome shelf.holds (AllByRecursion HasNoFileAsFolder)
