-- The files of a tree, as a function of the set of its rocks. The places are those of a LuaRocks tree for Lua 5.4.
use Rattle.std.specs.Prelude.{ℕ, ◌≢◌, List, [], ◌∷◌, ◌++◌, map, codes}
use Rattle.std.specs.List.{AllByRecursion, flat_map}
use Rattle.std.specs.FinMap.{from_entries}
use Rattle.rocks_text.specs.Files.{Files}
use Rattle.rocks_text.specs.declared.item.Item.{Item}
use Rattle.rocks_version.specs.Keys.{rockspec_name}
use Rattle.rocks_version.specs.declared.key.RockKey.{RockKey}
use Rattle.rock_manifest.specs.Text.{record_text}
use Rattle.rock_record.specs.Rocks.{record_of}
use Rattle.rock_record.specs.declared.rock.Rock.{Rock}
use Rattle.manifest_text.specs.Text.{manifest_text}
use Rattle.tree_paths.specs.Places.{own_path}
use Rattle.tree_sets.specs.Places.{place_of}
use Rattle.tree_sets.specs.Sets.{entries_of}
use Rattle.tree_sets.specs.View.{view_of}
use Rattle.tree_sets.specs.declared.entry.IndexEntry.{IndexEntry}

-- a path and the bytes there
abbrev pub File : Type 0
File = List ℕ × List ℕ

-- where a rock's rockspec stands
abbrev pub rockspec_path : RockKey → List ℕ
rockspec_path key = own_path key (rockspec_name key.name key.version)

-- where the record of a rock's files stands
abbrev pub record_path : RockKey → List ℕ
record_path key = own_path key (codes "rock_manifest")

-- where the manifest of a tree stands
abbrev pub manifest_path : List ℕ
manifest_path = codes "lib/luarocks/rocks-5.4/manifest"

-- an own file at its place
abbrev pub own_file : RockKey → File → File
own_file key file = (own_path key file.0, file.1)

-- an item at its place
abbrev pub item_file : List IndexEntry → RockKey → Item × List ℕ → File
item_file entries key file = (place_of entries key file.0, file.1)

-- the files of a rock in the tree of a set: its rockspec, the record, its own files and its items
abbrev pub rock_files : List IndexEntry → Rock → List File
rock_files entries rock =
    (rockspec_path rock.key, rock.rockspec)
    ∷ (record_path rock.key, record_text (record_of rock))
    ∷ (map (own_file rock.key) rock.own ++ map (item_file entries rock.key) rock.items)

-- the manifest, where there is a rock
abbrev pub manifest_file : List IndexEntry → List File
manifest_file [] = []
manifest_file (entry ∷ entries) = (manifest_path, manifest_text (view_of (entry ∷ entries))) ∷ []

-- the files of the rocks of a set, and its manifest
abbrev pub tree_files : List Rock → List File
tree_files set = flat_map (rock_files (entries_of set)) set ++ manifest_file (entries_of set)

-- no path stands twice
abbrev pub HaveOwnPaths : List File → Type 0
HaveOwnPaths [] = Unit {0}
HaveOwnPaths (file ∷ more) = AllByRecursion (λ other. other.0 ≢ file.0) more × HaveOwnPaths more

-- the tree of a set has the files of its rocks, its manifest, and no other file
abbrev pub tree_of : List Rock → Files
tree_of set = from_entries (tree_files set)
