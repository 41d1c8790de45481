-- What the folder of a rock says, and where it shows that it is none. (This project's own.)
use Rattle.std.specs.Prelude.{ℕ, ◌≡◌, ◌≢◌, ◌≤◌, ◌+◌, ◌⊎◌, not, List, [], length, map, Option, Some, None}
use Rattle.std.specs.List.{Contains, filter}
use Rattle.std.specs.FinMap.{get}
use Rattle.std.specs.Str.{bytes_eq}
use Rattle.std.specs.declared.cmp.Ordering.TheVariants.{Greater}
use Rattle.md5.specs.Md5.{md5}
use Rattle.rocks_text.specs.Files.{path_cmp, Files}
use Rattle.rocks_constraint.specs.Wanted.{Wanted}
use Rattle.rocks_version.specs.Keys.{rockspec_name}
use Rattle.rocks_version.specs.declared.key.RockKey.{RockKey}
use Rattle.rock_manifest.specs.Records.{IsRecord}
use Rattle.rock_manifest.specs.Text.{record_text}
use Rattle.rock_manifest.specs.declared.record.Record.{Record}
use Rattle.rock_record.specs.declared.limits.TheConstants.{MOST_FILES}
use Rattle.rockspec.specs.Specs.{IsSpec}
use Rattle.rockspec.specs.declared.read.Rockspec.{Rockspec}
use Rattle.tree_sets.specs.Sets.{IsEntry}
use Rattle.tree_sets.specs.Trees.{record_path, rockspec_path}
use Rattle.tree_sets.specs.declared.entry.IndexEntry.{IndexEntry}
use Rattle.rock_folders.specs.declared.folder.Folder.{Folder}
use Rattle.rock_folders.specs.declared.folder.FoundRockspec.{FoundRockspec}
use Rattle.rock_folders.specs.declared.reading.Reading.{Reading}
use Rattle.rock_folders.specs.declared.reading.Reading.TheVariants.{Good, Bad}

-- ---- records

-- the own paths of a record without that of the rockspec
abbrev pub own_beside : RockKey → Record → List (List ℕ)
own_beside key whole =
    filter (λ path. not (bytes_eq path (rockspec_name key.name key.version))) (map (λ file. file.0) whole.own)

-- what a record says of its rock, and what the rock needs
abbrev pub recorded_entry : RockKey → Record → List Wanted → IndexEntry
recorded_entry key whole needed = record {
  key = key;
  dependencies = needed;
  items = map (λ file. file.0) whole.items;
  own = own_beside key whole;
}

-- the record names the rockspec, and its other paths are those of a rock
pub record IsRecordOf (key : RockKey) (whole : Record) : Type 0 where
  pub is : IsRecord whole
  pub rockspec : Contains (map (λ file. file.0) whole.own) (rockspec_name key.name key.version)
  pub entry : IsEntry (recorded_entry key whole [])
  pub few : length whole.items + length (own_beside key whole) ≤ MOST_FILES

-- ---- folders

-- the record's bytes are the text of no record of the rock
abbrev pub HasBadRecord : Files → RockKey → Type 0
HasBadRecord files key = (bytes : List ℕ) × (get files (record_path key) ≡ Some bytes)
    × ((whole : Record) → IsRecordOf key whole → record_text whole ≢ bytes)

-- the rockspec's bytes are no rockspec of the rock
abbrev pub HasBadRockspec : Files → RockKey → Type 0
HasBadRockspec files key = (bytes : List ℕ) × (get files (rockspec_path key) ≡ Some bytes)
    × ((spec : Rockspec) → IsSpec bytes spec → spec.key ≢ key)

-- a path in the folder of the rock shows that it is none
abbrev pub IsBadAt : Files → RockKey → List ℕ → Type 0
IsBadAt files key path =
    ((path ≡ record_path key) × HasBadRecord files key) ⊎ ((path ≡ rockspec_path key) × HasBadRockspec files key)

-- what is known of the rockspec: nothing where there is none
abbrev pub IsRockspecOf : RockKey → Option (List ℕ) → Option FoundRockspec → Type 0
IsRockspecOf key None None = Unit {0}
IsRockspecOf key (Some bytes) (Some found) =
    (spec : Rockspec) × IsSpec bytes spec × (spec.key ≡ key) × (found.dependencies ≡ spec.dependencies)
    × (found.digest ≡ md5 bytes) × (found.length ≡ length bytes)
IsRockspecOf key None (Some found) = ⊥
IsRockspecOf key (Some bytes) None = ⊥

-- the folder says what its record and its rockspec say
pub record IsFolderOf (files : Files) (rock : RockKey) (folder : Folder) : Type 0 where
  pub key : folder.key ≡ rock
  pub is : IsRecordOf rock folder.record
  pub text : get files (record_path rock) ≡ Some (record_text folder.record)
  pub rockspec : IsRockspecOf rock (get files (rockspec_path rock)) folder.rockspec

-- what comes of the folder of a rock that was found
abbrev pub IsReadingOf : Files → RockKey → Reading → Type 0
IsReadingOf files key (Good folder) = IsFolderOf files key folder
IsReadingOf files key (Bad path) = IsBadAt files key path × ((other : List ℕ) → IsBadAt files key other → path_cmp path other ≢ Greater)

-- ---- also of a device that doesn't tell its files

-- the folder is one that some files can have
pub record IsSomeFolder (rock : RockKey) (folder : Folder) : Type 0 where
  pub key : folder.key ≡ rock
  pub is : IsRecordOf rock folder.record
  -- the bytes of the rockspec, if there is one
  pub held : Option (List ℕ)
  pub rockspec : IsRockspecOf rock held folder.rockspec

-- a reading is of such a folder, or tells the path of the record or of the rockspec
abbrev pub IsSomeReading : RockKey → Reading → Type 0
IsSomeReading key (Good folder) = IsSomeFolder key folder
IsSomeReading key (Bad path) = (path ≡ record_path key) ⊎ (path ≡ rockspec_path key)
