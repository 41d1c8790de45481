-- The files of the steps taken so far, and what one step more comes to.
use Rattle.std.specs.Prelude.{ℕ, ◌≡◌, ◌+◌, ◌≤◌, Bool, false, ◌&&◌, nat_le, nat_lt, List, [], ◌∷◌, length, map, Option, Some, IfSome, slice_get}
use Rattle.std.specs.List.{filter_map}
use Rattle.std.specs.List.Sorted.{IsPermutation, IsSortedByKey}
use Rattle.rocks_text.specs.Files.{Files, path_cmp}
use Rattle.rocks_text.specs.Items.{item_cmp}
use Rattle.rocks_text.specs.declared.item.Item.{Item}
use Rattle.rocks_outside.specs.declared.shelf.ShelfRead.{ShelfRead}
use Rattle.rocks_outside.specs.declared.shelf.ShelfRead.TheVariants.{Absent, TooLong, Bytes}
use Rattle.rock_record.specs.declared.limits.TheConstants.{MOST_FILES, MOST_BYTES}
use Rattle.rock_parts.specs.declared.parts.Part.{Part}
use Rattle.rock_parts.specs.declared.parts.Part.TheVariants as parts
use Rattle.rock_parts.specs.declared.parts.Step.{Step}
use Rattle.rock_files.specs.Gathering.{Found, IsFoundOn, NoneFails, item_of, own_of, size_of}
use Rattle.rock_files.specs.declared.fault.BuildFault.{BuildFault}
use Rattle.rock_files.specs.declared.fault.BuildFault.TheVariants.{NoSourceFolder, MissingFile, TooLarge, BadTarget, ShelfFault, NoMemory}
use Rattle.rock_files.specs.declared.gathering.Gathered.{Gathered}
use Rattle.rock_files.specs.declared.gathering.Taken.{Taken}

-- a fact about the files of a server, where the shelf tells
abbrev pub OnServer : Option (List Files) → (server : ℕ) → (Files → Type 0) → Type 0
OnServer holds server P = IfSome holds (λ servers. (files : Files) → slice_get servers server ≡ Some files → P files)

-- ---- the limits

abbrev pub count_of : Taken → ℕ
count_of taken = length taken.items.items + length taken.own.items

-- no more than one rock may have
pub record IsWithinLimits (taken : Taken) : Type 0 where
  pub few : count_of taken ≤ MOST_FILES
  pub small : taken.size ≤ MOST_BYTES

-- the rock may have these bytes as one file more
abbrev pub fits_behind : Taken → (bytes : List ℕ) → Bool
fits_behind taken bytes = nat_lt (count_of taken) MOST_FILES && nat_le (taken.size + length bytes) MOST_BYTES

abbrev pub IsPastLimits : Taken → ShelfRead → Type 0
IsPastLimits taken Absent = ⊥
IsPastLimits taken TooLong = Unit {0}
IsPastLimits taken (Bytes bytes) = fits_behind taken bytes ≡ false

-- why what was read at a path can't be one file more
abbrev pub IsLimitFault : (from : List ℕ) → Taken → ShelfRead → BuildFault → Type 0
IsLimitFault from taken read NoSourceFolder = ⊥
IsLimitFault from taken read (MissingFile path) = (path ≡ from) × (read ≡ Absent)
IsLimitFault from taken read (TooLarge path) = (path ≡ from) × IsPastLimits taken read
IsLimitFault from taken read (BadTarget path) = ⊥
IsLimitFault from taken read ShelfFault = ⊥
IsLimitFault from taken read NoMemory = Unit {0}

-- a fault that says nothing of the files
abbrev pub IsOutside : BuildFault → Type 0
IsOutside NoSourceFolder = ⊥
IsOutside (MissingFile path) = ⊥
IsOutside (TooLarge path) = ⊥
IsOutside (BadTarget path) = ⊥
IsOutside ShelfFault = Unit {0}
IsOutside NoMemory = Unit {0}

-- ---- the files

-- the items of one file
abbrev pub items_with : Part → (bytes : List ℕ) → List (Item × List ℕ)
items_with (parts.Item item) bytes = (item, bytes) ∷ []
items_with (parts.Own path) bytes = []

-- its own files
abbrev pub own_with : Part → (bytes : List ℕ) → List (List ℕ × List ℕ)
own_with (parts.Item item) bytes = []
own_with (parts.Own path) bytes = (path, bytes) ∷ []

-- these are the files of steps of which none fails
pub record AreTaken (holds : Option (List Files)) (server : ℕ) (folder : List ℕ) (steps : List Step) (taken : Taken) : Type 0 where
  pub found : List Found
  pub steps_taken : map (λ one. one.step) found ≡ steps
  pub none_fails : NoneFails found
  pub told : IsFoundOn holds server folder steps found
  pub count : length found ≡ count_of taken
  pub size : size_of found ≡ taken.size
  pub limits : IsWithinLimits taken
  pub items : taken.items.items ≡ filter_map item_of found
  pub own : taken.own.items ≡ filter_map own_of found

-- the same files, each kind in order
pub record Sorts (files : List (Item × List ℕ)) (own_files : List (List ℕ × List ℕ)) (gathered : Gathered) : Type 0 where
  pub items : IsPermutation files gathered.items
  pub items_in_order : IsSortedByKey (λ file. file.0) item_cmp gathered.items
  pub own : IsPermutation own_files gathered.own
  pub own_in_order : IsSortedByKey (λ file. file.0) path_cmp gathered.own
