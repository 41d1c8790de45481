-- The steps to a plan: what each of them finds, or why it stops.
use Rattle.std.specs.Prelude.{◌≡◌, ◌≤◌, ◌||◌, ℕ, Bool, List, [], ◌∷◌, ◌++◌, Option, Some, None, Result, Ok, Err, codes, map, if◌then◌else◌}
use Rattle.std.specs.List.Sorted.{IsPermutation, IsSorted, IsSortedByKey}
use Rattle.std.specs.Str.{bytes_eq}
use Rattle.lua_value.specs.declared.key.Key.TheVariants.{Text}
use Rattle.lua_value.specs.Pairs.{Pairs, no_pairs, listed, value_at}
use Rattle.rocks_text.specs.Files.{path_cmp}
use Rattle.build_targets.specs.declared.meanings.Listing.TheVariants.{Modules, Lua, Lib, Bin, Conf}
use Rattle.build_targets.specs.declared.target.Dest.{Dest}
use Rattle.build_targets.specs.declared.target.Target.{Target}
use Rattle.build_targets.specs.Meanings.{source, is_lua_file}
use Rattle.twofold_paths.specs.Places.{IsTwofoldPath, IsLeastTwofoldPath}
use Rattle.twofold_paths.specs.declared.place.Place.{Place}
use Rattle.build_plan.specs.declared.fault.PlanFault.{PlanFault}
use Rattle.build_plan.specs.declared.fault.PlanFault.TheVariants.{BadTarget, TwoForOne}
use Rattle.build_plan.specs.declared.recipe.Recipe.{Recipe}
use Rattle.build_plan.specs.declared.stop.Stop.{Stop}
use Rattle.build_plan.specs.declared.stop.Stop.TheVariants.{NoMemory, Refused}
use Rattle.build_plan.specs.declared.plan.BuildPlan.TheVariants.{Build, Refused as Declined}
use Rattle.build_plan.specs.Entries.{Entry, bytes_of, table_at, type_said, entries_of, meaning}
use Rattle.build_plan.specs.Plans.{blame, folder_blame, key_bytes, sort_of, path_of, dest_cmp, HasPlanFault, IsFirstPlanFault, HasPlan, fault_rank}

-- ---- what the table `build` says

abbrev pub type_in : (build : Pairs) → List ℕ
type_in build = type_said (value_at (Text (codes "type")) build)

abbrev pub is_served : List ℕ → Bool
is_served told = bytes_eq told (codes "builtin") || bytes_eq told (codes "none")

-- its modules, which only a `builtin` build has
abbrev pub modules_in : (build : Pairs) → Pairs
modules_in build =
    if bytes_eq (type_in build) (codes "builtin") then table_at (codes "modules") build else no_pairs

-- a `builtin` build without `modules`
abbrev pub LacksModules : (build : Pairs) → Type 0
LacksModules build =
    (bytes_eq (type_in build) (codes "builtin") ≡ Bool.true) × (value_at (Text (codes "modules")) build ≡ None)

-- ---- the first of some

abbrev pub first_some : List (Option (List ℕ)) → Option (List ℕ)
first_some [] = None
first_some (None ∷ rest) = first_some rest
first_some (Some text ∷ rest) = Some text

-- the name of a module whose file is no Lua file
abbrev pub compiled_name : Entry → Option (List ℕ)
compiled_name entry = if is_lua_file entry.file then None else Some (key_bytes entry.key)

-- ---- targets and folders

abbrev pub before : Result Target (List ℕ) → List Target → List Target
before (Ok target) targets = target ∷ targets
before (Err text) targets = targets

-- the targets of entries
abbrev pub targets_of : List Entry → List Target
targets_of [] = []
targets_of (entry ∷ entries) = before (meaning entry) (targets_of entries)

-- the first text of them that has no meaning
abbrev pub blamed_in : List Entry → Option (List ℕ)
blamed_in entries = first_some (map (λ entry. blame (meaning entry)) entries)

-- the entries of these two tables
abbrev pub entries_in : (modules install : Pairs) → List Entry
entries_in modules install =
    entries_of Modules modules
    ++ (entries_of Lua (table_at (codes "lua") install)
    ++ (entries_of Lib (table_at (codes "lib") install)
    ++ (entries_of Bin (table_at (codes "bin") install)
    ++ entries_of Conf (table_at (codes "conf") install))))

-- the texts of a list
abbrev pub texts_in : Pairs → List (List ℕ)
texts_in ps = map (λ pair. bytes_of pair.1) (listed ps)

-- the text that a step was stopped by
abbrev pub IsBlamed : Option (List ℕ) → PlanFault → Type 0
IsBlamed blamed fault = (text : List ℕ) × (fault ≡ BadTarget text) × (blamed ≡ Some text)

abbrev pub IsStopped : Option (List ℕ) → Stop → Type 0
IsStopped blamed NoMemory = Unit {0}
IsStopped blamed (Refused fault) = IsBlamed blamed fault

-- a step answers what it looked for, or is stopped by a text that has no meaning
abbrev pub Finds : {X : Type 0} → (X → Type 0) → Option (List ℕ) → Result X Stop → Type 0
Finds Is blamed (Ok x) = Is x × (blamed ≡ None)
Finds Is blamed (Err stop) = IsStopped blamed stop

-- what the entry at a place means, or the text of it that has no meaning
abbrev pub IsMeantAt : Option Entry → Result Target Stop → Type 0
IsMeantAt there (Ok target) = (entry : Entry) × (there ≡ Some entry) × (meaning entry ≡ Ok target)
IsMeantAt there (Err NoMemory) = Unit {0}
IsMeantAt there (Err (Refused fault)) =
    (entry : Entry) × (there ≡ Some entry) × ((text : List ℕ) × (fault ≡ BadTarget text) × (meaning entry ≡ Err text))

-- the folder that the text at a place names, or the text
abbrev pub IsNamedAt : (rockspec : List ℕ) → Option (List ℕ) → Result (List ℕ) Stop → Type 0
IsNamedAt rockspec there (Ok folder) =
    (text : List ℕ) × (there ≡ Some text) × (folder ≡ source text) × (folder_blame rockspec text ≡ None)
IsNamedAt rockspec there (Err NoMemory) = Unit {0}
IsNamedAt rockspec there (Err (Refused fault)) =
    (text : List ℕ) × (there ≡ Some text) × (fault ≡ BadTarget text) × (folder_blame rockspec text ≡ Some text)

-- ---- faults

-- a step finds the first fault of the build, or that it has none before those of a rank
abbrev pub Passes : {X : Type 0} → (fields : Pairs) → ℕ → Result X Stop → Type 0
Passes fields rank (Ok x) =
    (rockspec : List ℕ) (fault : PlanFault) → HasPlanFault rockspec fields fault → rank ≤ fault_rank fault
Passes fields rank (Err NoMemory) = Unit {0}
Passes fields rank (Err (Refused fault)) = (rockspec : List ℕ) → IsFirstPlanFault rockspec fields fault

-- a recipe, or why there is none
abbrev pub IsPlanned : (rockspec : List ℕ) → (fields : Pairs) → Result Recipe Stop → Type 0
IsPlanned rockspec fields (Ok recipe) = HasPlan rockspec fields (Build recipe)
IsPlanned rockspec fields (Err NoMemory) = Unit {0}
IsPlanned rockspec fields (Err (Refused fault)) = HasPlan rockspec fields (Declined fault)

-- ---- where files and folders stand

abbrev pub place_of : Dest → Place
place_of dest = record { sort = sort_of dest; path = path_of dest }

-- folders are of a sort of their own
abbrev pub folder_place : List ℕ → Place
folder_place folder = record { sort = 4; path = folder }

abbrev pub places_of : List Target → (folders : List (List ℕ)) → List Place
places_of targets folders = map (λ target. place_of target.to) targets ++ map folder_place folders

-- the least twofold path of places
abbrev pub IsMet : List Place → Stop → Type 0
IsMet places NoMemory = Unit {0}
IsMet places (Refused fault) = (path : List ℕ) × (fault ≡ TwoForOne path) × IsLeastTwofoldPath places path

-- no path of the places is twofold, or this is the least
abbrev pub IsApart : {X : Type 0} → List Place → Result X Stop → Type 0
IsApart places (Ok x) = (path : List ℕ) → ¬ IsTwofoldPath places path
IsApart places (Err stop) = IsMet places stop

-- the recipe has these, each in order
pub record IsInOrder (targets : List Target) (folders : List (List ℕ)) (recipe : Recipe) : Type 0 where
  pub same : IsPermutation targets recipe.files
  pub in_order : IsSortedByKey (λ target. target.to) dest_cmp recipe.files
  pub same_folders : IsPermutation folders recipe.folders
  pub folders_in_order : IsSorted path_cmp recipe.folders
