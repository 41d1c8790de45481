-- Which files of a folder become which files of a rock, in the order in which they are read.
use Rattle.std.specs.Prelude.{ℕ, ◌≢◌, Bool, not, ◌||◌, List, [], ◌∷◌, ◌++◌, drop, map, codes, if◌then◌else◌}
use Rattle.std.specs.List.{AllPairs, filter, flat_map, starts_with}
use Rattle.std.specs.Bool.{nat_eq}
use Rattle.std.specs.Str.{bytes_eq}
use Rattle.rocks_text.specs.declared.item.Kind.TheVariants.{Lua, Lib, Bin}
use Rattle.build_targets.specs.declared.target.Dest.{Dest}
use Rattle.build_targets.specs.declared.target.Dest.TheVariants as dests
use Rattle.build_targets.specs.declared.target.Target.{Target}
use Rattle.build_plan.specs.declared.recipe.Recipe.{Recipe}
use Rattle.rock_parts.specs.Parts.{items_made, own_paths_made}
use Rattle.rock_record.specs.Made.{AreItemsApart, ArePathsApart, AreBesideBoth}
use Rattle.rock_parts.specs.declared.parts.Part.{Part}
use Rattle.rock_parts.specs.declared.parts.Part.TheVariants as parts
use Rattle.rock_parts.specs.declared.parts.Step.{Step}
use Rattle.rock_parts.specs.declared.parts.Step.TheVariants.{Read, NoFile}

-- a file stands in a folder, or in one below it
abbrev pub is_in : (folder path : List ℕ) → Bool
is_in folder path = starts_with nat_eq path (folder ++ 47 ∷ [])

-- ---- a build from sources

-- configuration files are the rock's own, below `conf/`
abbrev pub part_of : Dest → Part
part_of (dests.Item item) = parts.Item item
part_of (dests.Conf path) = parts.Own (codes "conf/" ++ path)

abbrev pub target_step : Target → Step
target_step target = Read (record { part = part_of target.to; from = target.from })

-- a file that keeps its path, as one of the rock's own
abbrev pub kept : List ℕ → Step
kept path = Read (record { part = parts.Own path; from = path })

-- the steps of a named folder with these files
abbrev pub steps_with : (folder : List ℕ) → List (List ℕ) → List Step
steps_with folder [] = NoFile folder ∷ []
steps_with folder (path ∷ paths) = map kept (path ∷ paths)

-- the steps of a named folder, by the paths of all files of the sources
abbrev pub folder_steps : (listing : List (List ℕ)) → (folder : List ℕ) → List Step
folder_steps listing folder = steps_with folder (filter (is_in folder) listing)

-- the files of the recipe first, and then the named folders
abbrev pub build_steps : Recipe → (listing : List (List ℕ)) → List Step
build_steps recipe listing = map target_step recipe.files ++ flat_map (folder_steps listing) recipe.folders

-- ---- an unpacked rock's folder

-- what a file of the folder is in the rock
abbrev pub taken_part : List ℕ → Part
taken_part path =
    if is_in (codes "lua") path then parts.Item (record { kind = Lua; path = drop 4 path })
    else (if is_in (codes "lib") path then parts.Item (record { kind = Lib; path = drop 4 path })
    else (if is_in (codes "bin") path then parts.Item (record { kind = Bin; path = drop 4 path })
    else parts.Own path))

abbrev pub taken : List ℕ → Step
taken path = Read (record { part = taken_part path; from = path })

-- the rockspec was read, and the record is made anew
abbrev pub is_passed : (rockspec path : List ℕ) → Bool
is_passed rockspec path = bytes_eq path rockspec || bytes_eq path (codes "rock_manifest")

abbrev pub taken_steps : (rockspec : List ℕ) → (listing : List (List ℕ)) → List Step
taken_steps rockspec listing = map taken (filter (λ path. not (is_passed rockspec path)) listing)

-- the path is in the way of the rock's record or rockspec
abbrev pub is_bad : (rockspec path : List ℕ) → Bool
is_bad rockspec path = is_in (codes "rock_manifest") path || is_in rockspec path

-- ---- what the steps make

-- the files differ, and none is in another's way
pub record AreGood (rockspec : List ℕ) (steps : List Step) : Type 0 where
  pub items_differ : AllPairs (λ item other. item ≢ other) (items_made steps)
  pub own_differ : AllPairs (λ path other. path ≢ other) (own_paths_made steps)
  pub items_apart : AreItemsApart (items_made steps)
  pub own_apart : ArePathsApart (own_paths_made steps)
  pub own_beside : AreBesideBoth rockspec (own_paths_made steps)
