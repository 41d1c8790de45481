-- What is found out of each file in the folder of a rock. No public clause cites this.
use Rattle.std.specs.Prelude.{ℕ, ◌≡◌, ◌≢◌, List, [], ◌∷◌, ◌++◌, codes, map, Option, Some, None}
use Rattle.rocks_text.specs.Items.{rank_of}
use Rattle.rocks_text.specs.declared.item.Item.{Item}
use Rattle.rocks_version.specs.declared.key.RockKey.{RockKey}
use Rattle.rock_manifest.specs.Text.{record_text}
use Rattle.rock_manifest.specs.declared.record.Record.{Record}
use Rattle.rockspec.specs.Specs.{IsSpec}
use Rattle.rockspec.specs.declared.read.Rockspec.{Rockspec}
use Rattle.twofold_paths.specs.declared.place.Place.{Place}
use Rattle.rock_folders.specs.Folders.{IsRecordOf, IsRockspecOf}
use Rattle.rock_folders.specs.declared.folder.FoundRockspec.{FoundRockspec}

-- ---- the places of the files that a record names

abbrev pub item_place : Item → Place
item_place item = record { sort = rank_of item.kind; path = item.path }

-- a file in the rock's own folder
abbrev pub own_place : List ℕ → Place
own_place path = record { sort = 3; path = path }

-- those of its files and of the record itself
abbrev pub places_of : Record → List Place
places_of whole =
    map (λ file. item_place file.0) whole.items
    ++ (map (λ file. own_place file.0) whole.own ++ own_place (codes "rock_manifest") ∷ [])

-- ---- what the files say

-- the bytes are the text of no record of the rock
abbrev pub IsNoRecordOf : RockKey → List ℕ → Type 0
IsNoRecordOf key bytes = (whole : Record) → IsRecordOf key whole → record_text whole ≢ bytes

-- the record that stands in the folder; none where it is no record of the rock, or there is none
abbrev pub IsRecordRead : RockKey → Option (List ℕ) → Option Record → Type 0
IsRecordRead key held (Some whole) = IsRecordOf key whole × (held ≡ Some (record_text whole))
IsRecordRead key held None = (bytes : List ℕ) → held ≡ Some bytes → IsNoRecordOf key bytes

-- the bytes are no rockspec of the rock
abbrev pub IsNoRockspecOf : RockKey → List ℕ → Type 0
IsNoRockspecOf key bytes = (spec : Rockspec) → IsSpec bytes spec → spec.key ≢ key

-- what the rockspec says, if there is one; none where it is no rockspec of the rock
abbrev pub IsRockspecRead : RockKey → Option (List ℕ) → Option (Option FoundRockspec) → Type 0
IsRockspecRead key held (Some found) = IsRockspecOf key held found
IsRockspecRead key held None = (bytes : List ℕ) × (held ≡ Some bytes) × IsNoRockspecOf key bytes

-- what is known of the same where the device doesn't tell its files
abbrev pub IsSomeRockspec : RockKey → Option FoundRockspec → Type 0
IsSomeRockspec key found = (held : Option (List ℕ)) × IsRockspecOf key held found
