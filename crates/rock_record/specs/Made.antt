-- Which files one rock may have. (This project's own.)
use Rattle.std.specs.Prelude.{ℕ, ◌≡◌, ◌≢◌, ◌≤◌, List, ◌++◌, length, map, codes}
use Rattle.std.specs.List.{All, Contains, sum}
use Rattle.rocks_text.specs.Paths.{IsFolderOf}
use Rattle.rocks_text.specs.declared.item.Item.{Item}
use Rattle.rocks_version.specs.Keys.{rockspec_name}
use Rattle.rock_manifest.specs.Records.{AreItemsInOrder, ArePathsInOrder}
use Rattle.rock_record.specs.declared.limits.TheConstants.{LONGEST_FILE, MOST_FILES, MOST_BYTES}
use Rattle.rock_record.specs.declared.rock.Rock.{Rock}

-- no item is a folder of another of its kind
abbrev pub AreItemsApart : List Item → Type 0
AreItemsApart items = (item other : Item) → Contains items item → Contains items other
    → item.kind ≡ other.kind → ¬ (IsFolderOf item.path other.path)

-- no path is a folder of another
abbrev pub ArePathsApart : List (List ℕ) → Type 0
ArePathsApart paths = (path other : List ℕ) → Contains paths path → Contains paths other → ¬ (IsFolderOf path other)

-- a path is not this file's, and not below it
abbrev pub IsBeside : (file path : List ℕ) → Type 0
IsBeside file path = (path ≢ file) × ¬ (IsFolderOf file path)

-- the paths leave room for the record and for the rockspec
abbrev pub AreBesideBoth : (rockspec : List ℕ) → List (List ℕ) → Type 0
AreBesideBoth rockspec paths = (path : List ℕ) → Contains paths path
    → IsBeside (codes "rock_manifest") path × IsBeside rockspec path

abbrev pub items_of : Rock → List Item
items_of rock = map (λ file. file.0) rock.items

abbrev pub own_paths_of : Rock → List (List ℕ)
own_paths_of rock = map (λ file. file.0) rock.own

-- items and own files are in order, each once; none stands in another's way, and no own file in that of the record or
-- of the rockspec
pub record HasGoodPaths (rock : Rock) : Type 0 where
  pub items : AreItemsInOrder rock.items
  pub own : ArePathsInOrder rock.own
  pub items_apart : AreItemsApart (items_of rock)
  pub own_apart : ArePathsApart (own_paths_of rock)
  pub own_beside : AreBesideBoth (rockspec_name rock.key.name rock.key.version) (own_paths_of rock)

-- the bytes of each file, without the rockspec
abbrev pub contents_of : Rock → List (List ℕ)
contents_of rock = map (λ file. file.1) rock.items ++ map (λ file. file.1) rock.own

pub record IsWithinLimits (rock : Rock) : Type 0 where
  pub each : All (λ bytes. length bytes ≤ LONGEST_FILE) (contents_of rock)
  pub count : length (contents_of rock) ≤ MOST_FILES
  pub size : sum (map length (contents_of rock)) ≤ MOST_BYTES
