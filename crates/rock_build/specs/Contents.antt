-- The rock that a folder of a server holds, or why it holds none: its contents as the sources of a build, and as an
-- unpacked rock. (LuaRocks documentation, rockspec format: build; the folders are this project's own.)
use Rattle.std.specs.Prelude.{ℕ, ◌≡◌, ◌↔◌, ◌⊎◌, Bool, true, false, not, ◌&&◌, List, [], ◌∷◌, ◌++◌, codes, Option, None, Some, IfSome, Result, Ok, Err, slice_get}
use Rattle.std.specs.List.{Contains, filter_map, find}
use Rattle.rocks_text.specs.Files.{Files}
use Rattle.rocks_text.specs.Paths.{joined}
use Rattle.rocks_text.specs.declared.item.Item.{Item}
use Rattle.rocks_outside.specs.Shelf.{paths_below}
use Rattle.rocks_version.specs.Keys.{rockspec_name}
use Rattle.rocks_version.specs.declared.key.RockKey.{RockKey}
use Rattle.build_plan.specs.declared.recipe.Recipe.{Recipe}
use Rattle.build_plan.specs.declared.plan.BuildPlan.TheVariants.{Build}
use Rattle.rockspec.specs.Specs.{IsSpec}
use Rattle.rockspec.specs.declared.read.Rockspec.{Rockspec}
use Rattle.rock_manifest.specs.Records.{AreItemsInOrder, ArePathsInOrder}
use Rattle.rock_record.specs.Made.{HasGoodPaths, IsWithinLimits}
use Rattle.rock_record.specs.declared.rock.Rock.{Rock}
use Rattle.rock_steps.specs.Steps.{build_steps, taken_steps, is_bad}
use Rattle.rock_files.specs.Gathering.{Found, found_in, item_of, own_of, NoneFails, FailsFirst}
use Rattle.rock_files.specs.declared.fault.BuildFault.{BuildFault}
use Rattle.rock_files.specs.declared.fault.BuildFault.TheVariants.{NoSourceFolder, BadTarget, ShelfFault, NoMemory}

-- NAME-VERSION
abbrev pub source_folder : RockKey → List ℕ
source_folder key = key.name ++ (codes "-" ++ key.version)

-- NAME-VERSION.rock
abbrev pub unpacked_folder : RockKey → List ℕ
unpacked_folder key = key.name ++ (codes "-" ++ (key.version ++ codes ".rock"))

-- the rockspec of a rock
abbrev pub rockspec_of : RockKey → List ℕ
rockspec_of key = rockspec_name key.name key.version

-- the path on a server of the rockspec in that folder
abbrev pub unpacked_rockspec : RockKey → List ℕ
unpacked_rockspec key = joined (unpacked_folder key) (rockspec_of key)

-- ---- rocks

-- the rock has what its rockspec says, and the files that were found for it and no other, in order, each once
pub record IsRockOf (spec : Rockspec) (bytes : List ℕ) (found : List Found) (rock : Rock) : Type 0 where
  pub key : rock.key ≡ spec.key
  pub dependencies : rock.dependencies ≡ spec.dependencies
  pub rockspec : rock.rockspec ≡ bytes
  pub items_in_order : AreItemsInOrder rock.items
  pub items : (file : Item × List ℕ) → Contains rock.items file ↔ Contains (filter_map item_of found) file
  pub own_in_order : ArePathsInOrder rock.own
  pub own : (file : List ℕ × List ℕ) → Contains rock.own file ↔ Contains (filter_map own_of found) file

-- all was found, and the rock has it; or the fault is that of the first that wasn't
abbrev pub ComesTo : Rockspec → (bytes : List ℕ) → List Found → Result Rock BuildFault → Type 0
ComesTo spec bytes found (Ok rock) = NoneFails found × IsRockOf spec bytes found rock
ComesTo spec bytes found (Err fault) = FailsFirst found fault

-- ---- a build from sources

abbrev pub is_none : {X : Type 0} → List X → Bool
is_none [] = true
is_none (x ∷ xs) = false

-- the recipe names something, and the source folder has no file
abbrev pub lacks_sources : Recipe → (listing : List (List ℕ)) → Bool
lacks_sources recipe listing = is_none listing && not (is_none recipe.files && is_none recipe.folders)

abbrev pub IsContentsOf : Rockspec → (bytes : List ℕ) → Recipe → Files → (listing : List (List ℕ)) → Result Rock BuildFault → Type 0
IsContentsOf spec bytes recipe files listing result =
    ((lacks_sources recipe listing ≡ true) × (result ≡ Err NoSourceFolder))
    ⊎ ((lacks_sources recipe listing ≡ false)
    × ComesTo spec bytes (found_in files (source_folder spec.key) (build_steps recipe listing)) result)

-- what a recipe makes of the files of a server
abbrev pub IsContents : Rockspec → (bytes : List ℕ) → Recipe → Files → Result Rock BuildFault → Type 0
IsContents spec bytes recipe files result =
    IsContentsOf spec bytes recipe files (paths_below (source_folder spec.key) files) result

-- ---- an unpacked rock

abbrev pub IsUnpackedOf : Rockspec → (bytes : List ℕ) → Files → (listing : List (List ℕ)) → Option (List ℕ) → Result Rock BuildFault → Type 0
IsUnpackedOf spec bytes files listing (Some path) result = result ≡ Err (BadTarget path)
IsUnpackedOf spec bytes files listing None result =
    ComesTo spec bytes (found_in files (unpacked_folder spec.key) (taken_steps (rockspec_of spec.key) listing)) result

-- what an unpacked rock's folder of a server makes; a path there that is bad comes before all else, the least first
abbrev pub IsUnpacked : Rockspec → (bytes : List ℕ) → Files → Result Rock BuildFault → Type 0
IsUnpacked spec bytes files result =
    IsUnpackedOf spec bytes files (paths_below (unpacked_folder spec.key) files)
    (find (is_bad (rockspec_of spec.key)) (paths_below (unpacked_folder spec.key) files)) result

-- ---- what the calls answer

-- an answer is so, but where the shelf failed or memory ran out
abbrev pub IsAnswer : (Result Rock BuildFault → Type 0) → Result Rock BuildFault → Type 0
IsAnswer Is (Err ShelfFault) = Unit {0}
IsAnswer Is (Err NoMemory) = Unit {0}
IsAnswer Is result = Is result

-- where the shelf tells, the answer is what the server's files make
abbrev pub IsContentsOn : Option (List Files) → (server : ℕ) → Rockspec → (bytes : List ℕ) → Result Rock BuildFault → Type 0
IsContentsOn holds server spec bytes result = IfSome holds (λ servers. (files : Files) (recipe : Recipe)
    → slice_get servers server ≡ Some files → spec.plan ≡ Build recipe
    → IsAnswer (IsContents spec bytes recipe files) result)

abbrev pub IsUnpackedOn : Option (List Files) → (server : ℕ) → Rockspec → (bytes : List ℕ) → Result Rock BuildFault → Type 0
IsUnpackedOn holds server spec bytes result = IfSome holds (λ servers. (files : Files)
    → slice_get servers server ≡ Some files → IsAnswer (IsUnpacked spec bytes files) result)

-- A rock is well made: its rockspec says its name, version and dependencies, its files can stand beside each other, and
-- they are within the limits.
pub record IsWellMade (rock : Rock) : Type 0 where
  pub spec : Rockspec
  pub is : IsSpec rock.rockspec spec
  pub key : rock.key ≡ spec.key
  pub dependencies : rock.dependencies ≡ spec.dependencies
  pub paths : HasGoodPaths rock
  pub limits : IsWithinLimits rock

-- the rock of this rockspec, whatever the shelf tells
pub record Makes (spec : Rockspec) (bytes : List ℕ) (rock : Rock) : Type 0 where
  pub key : rock.key ≡ spec.key
  pub dependencies : rock.dependencies ≡ spec.dependencies
  pub rockspec : rock.rockspec ≡ bytes
  pub well_made : IsWellMade rock
