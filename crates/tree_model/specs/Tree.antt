-- The files of a tree, as a function of the set of its rocks. The places are those of a LuaRocks tree for Lua 5.4.
use Rattle.std.specs.Prelude.{ℕ, ◌≢◌, List, [], ◌∷◌, ◌++◌, length, map, codes}
use Rattle.std.specs.List.{flat_map, AllByRecursion}
use Rattle.std.specs.FinMap.{from_entries}
use Rattle.rocks_text.specs.Files.{Files}
use Rattle.rocks_text.specs.declared.item.Item.{Item}
use Rattle.rocks_version.specs.Keys.{rockspec_name}
use Rattle.rocks_version.specs.declared.key.RockKey.{RockKey}
use Rattle.rock_manifest.specs.Text.{record_text}
use Rattle.rock_record.specs.Rocks.{record_of}
use Rattle.rock_record.specs.declared.rock.Rock.{Rock}
use Rattle.tree_model.specs.declared.staging.Staged.{Staged}
use Rattle.tree_paths.specs.Places.{plain_path, own_path}

-- where a rock's rockspec stands
abbrev pub rockspec_path : RockKey → List ℕ
rockspec_path key = own_path key (rockspec_name key.name key.version)

-- where the record of a rock's files stands
abbrev pub record_path : RockKey → List ℕ
record_path key = own_path key (codes "rock_manifest")

-- an own file at its place
abbrev pub own_file : RockKey → List ℕ × List ℕ → List ℕ × List ℕ
own_file key file = (own_path key file.0, file.1)

-- an item at its place
abbrev pub item_file : Item × List ℕ → List ℕ × List ℕ
item_file file = (plain_path file.0, file.1)

-- the files that a rock brings, with their paths in the tree: its rockspec, the record, its own files and its items
abbrev pub files_of : Rock → List (List ℕ × List ℕ)
files_of rock =
    (rockspec_path rock.key, rock.rockspec)
    ∷ (record_path rock.key, record_text (record_of rock))
    ∷ (map (own_file rock.key) rock.own ++ map item_file rock.items)

-- the path and the bytes of a file that is to be written
abbrev pub file_at : Staged → List ℕ × List ℕ
file_at staged = (staged.at, staged.bytes.now)

-- how many files the rocks of a set bring
abbrev pub file_count : List Rock → ℕ
file_count rocks = length (flat_map files_of rocks)

-- no path stands twice
abbrev pub HaveOwnPaths : List (List ℕ × List ℕ) → Type 0
HaveOwnPaths [] = Unit {0}
HaveOwnPaths (file ∷ more) = AllByRecursion (λ other. other.0 ≢ file.0) more × HaveOwnPaths more

-- The tree of a set is the files of its rocks and no other file. No two rocks of a set bring one path yet: a set
-- has one rock at most.
abbrev pub tree_of : List Rock → Files
tree_of rocks = from_entries (flat_map files_of rocks)
