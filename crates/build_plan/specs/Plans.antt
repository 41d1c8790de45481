-- What comes of a rockspec's build: what it installs, or its first fault.
use Rattle.std.specs.Prelude.{◌≡◌, ◌≢◌, ◌⊎◌, ◌↔◌, ◌<◌, ◌≤◌, ℕ, false, List, [], ◌++◌, IsTrue, Contains, Option, None, codes, map, slice_get, Some, Result, Ok, Err, ◌||◌, if◌then◌else◌}
use Rattle.std.specs.List.Sorted.{IsStrictlySortedBy}
use Rattle.std.specs.Str.{bytes_eq}
use Rattle.std.specs.declared.cmp.Ordering.{Ordering}
use Rattle.std.specs.declared.cmp.Ordering.TheVariants.{Less, Greater}
use Rattle.lua_value.specs.declared.key.Key.{Key}
use Rattle.lua_value.specs.declared.key.Key.TheVariants.{Text, Int, Bool as Truth}
use Rattle.lua_value.specs.Pairs.{Pairs, no_pairs, value_at}
use Rattle.rocks_text.specs.Files.{path_cmp}
use Rattle.rocks_text.specs.Items.{item_cmp, rank_of}
use Rattle.rocks_text.specs.Paths.{IsFolderOf}
use Rattle.build_plan.specs.declared.fault.PlanFault.{PlanFault}
use Rattle.build_plan.specs.declared.fault.PlanFault.TheVariants.{BuildType, NoModules, External, Patches, NeedsCompiler, BadTarget, TwoForOne}
use Rattle.build_plan.specs.declared.plan.BuildPlan.{BuildPlan}
use Rattle.build_plan.specs.declared.plan.BuildPlan.TheVariants.{Build, Refused}
use Rattle.build_targets.specs.declared.target.Dest.{Dest}
use Rattle.build_targets.specs.declared.target.Dest.TheVariants.{Item, Conf}
use Rattle.build_plan.specs.declared.recipe.Recipe.{Recipe}
use Rattle.build_targets.specs.declared.target.Target.{Target}
use Rattle.build_plan.specs.Entries.{Entry, table_at, build_of, build_type, is_builtin, module_entries, entries, meaning, named_folders}
use Rattle.build_targets.specs.Folders.{is_folder}
use Rattle.build_targets.specs.Meanings.{source, is_lua_file}

-- some entry means this target
pub record IsTarget (fields : Pairs) (target : Target) : Type 0 where
  pub entry : Entry
  pub among : Contains (entries fields) entry
  pub means : meaning entry ≡ Ok target

-- the sorts of places: three of items, and configuration files
abbrev pub sort_of : Dest → ℕ
sort_of (Item item) = rank_of item.kind
sort_of (Conf path) = 3

abbrev pub path_of : Dest → List ℕ
path_of (Item item) = item.path
path_of (Conf path) = path

-- items come before configuration files
abbrev pub dest_cmp : Dest → Dest → Ordering
dest_cmp (Item item) (Item other) = item_cmp item other
dest_cmp (Item item) (Conf path) = Less
dest_cmp (Conf path) (Item item) = Greater
dest_cmp (Conf path) (Conf other) = path_cmp path other

-- two entries at different places of the list mean one place
pub record IsTwice (fields : Pairs) (path : List ℕ) : Type 0 where
  pub first : ℕ
  pub second : ℕ
  pub entry : Entry
  pub other : Entry
  pub target : Target
  pub again : Target
  pub apart : first < second
  pub is : slice_get (entries fields) first ≡ Some entry
  pub is_other : slice_get (entries fields) second ≡ Some other
  pub means : meaning entry ≡ Ok target
  pub means_too : meaning other ≡ Ok again
  pub same : target.to ≡ again.to
  pub at : path ≡ path_of target.to

-- a target lies below another one of its sort
pub record IsBelowTarget (fields : Pairs) (path : List ℕ) : Type 0 where
  pub upper : Target
  pub lower : Target
  pub is_upper : IsTarget fields upper
  pub is_lower : IsTarget fields lower
  pub one_sort : sort_of upper.to ≡ sort_of lower.to
  pub folder : IsFolderOf (path_of upper.to) (path_of lower.to)
  pub at : path ≡ path_of lower.to

-- a named folder is equal to another one or inside it
pub record IsFolderTwice (fields : Pairs) (path : List ℕ) : Type 0 where
  pub first : ℕ
  pub second : ℕ
  pub folder : List ℕ
  pub other : List ℕ
  pub apart : first ≢ second
  pub is : slice_get (named_folders fields) first ≡ Some folder
  pub is_other : slice_get (named_folders fields) second ≡ Some other
  pub within : (source folder ≡ source other) ⊎ IsFolderOf (source other) (source folder)
  pub at : path ≡ source folder

abbrev pub IsTwofold : (fields : Pairs) → List ℕ → Type 0
IsTwofold fields path = IsTwice fields path ⊎ (IsBelowTarget fields path ⊎ IsFolderTwice fields path)

-- the least such path
pub record IsLeastTwofold (fields : Pairs) (path : List ℕ) : Type 0 where
  pub is : IsTwofold fields path
  pub least : (other : List ℕ) → IsTwofold fields other → path_cmp path other ≢ Greater

-- the key of a module, as its bytes
abbrev pub key_bytes : Key → List ℕ
key_bytes (Text bytes) = bytes
key_bytes (Int n) = []
key_bytes (Truth b) = []

-- the first module whose file is no Lua file; entries go by their keys, so it is the least
pub record IsFirstCompiled (fields : Pairs) (name : List ℕ) : Type 0 where
  pub place : ℕ
  pub entry : Entry
  pub is : slice_get (module_entries fields) place ≡ Some entry
  pub compiled : is_lua_file entry.file ≡ false
  pub named : name ≡ key_bytes entry.key
  pub first : (earlier : ℕ) (other : Entry) → earlier < place → slice_get (module_entries fields) earlier ≡ Some other
      → IsTrue (is_lua_file other.file)

-- what of each entry and then of each named folder has no meaning, if something has none
abbrev pub blame : Result Target (List ℕ) → Option (List ℕ)
blame (Ok target) = None
blame (Err text) = Some text

abbrev pub folder_blame : (rockspec : List ℕ) → List ℕ → Option (List ℕ)
folder_blame rockspec named = if is_folder rockspec named then None else Some named

abbrev pub blames : (rockspec : List ℕ) → (fields : Pairs) → List (Option (List ℕ))
blames rockspec fields =
    map (λ entry. blame (meaning entry)) (entries fields) ++ map (folder_blame rockspec) (named_folders fields)

-- the first of these
pub record IsFirstBlamed (rockspec : List ℕ) (fields : Pairs) (text : List ℕ) : Type 0 where
  pub place : ℕ
  pub is : slice_get (blames rockspec fields) place ≡ Some (Some text)
  pub first : (earlier : ℕ) (other : List ℕ) → earlier < place
      → slice_get (blames rockspec fields) earlier ≢ Some (Some other)

-- the build has this fault, whatever others it has
abbrev pub HasPlanFault : (rockspec : List ℕ) → (fields : Pairs) → PlanFault → Type 0
HasPlanFault rockspec fields (BuildType told) =
    (told ≡ build_type fields) × ((bytes_eq told (codes "builtin") || bytes_eq told (codes "none")) ≡ false)
HasPlanFault rockspec fields NoModules =
    IsTrue (is_builtin fields) × (value_at (Text (codes "modules")) (build_of fields) ≡ None)
HasPlanFault rockspec fields External = table_at (codes "external_dependencies") fields ≢ no_pairs
HasPlanFault rockspec fields Patches = table_at (codes "patches") (build_of fields) ≢ no_pairs
HasPlanFault rockspec fields (NeedsCompiler name) = IsFirstCompiled fields name
HasPlanFault rockspec fields (BadTarget text) = IsFirstBlamed rockspec fields text
HasPlanFault rockspec fields (TwoForOne path) = IsLeastTwofold fields path

-- the order of faults
abbrev pub fault_rank : PlanFault → ℕ
fault_rank (BuildType told) = 0
fault_rank NoModules = 1
fault_rank External = 2
fault_rank Patches = 3
fault_rank (NeedsCompiler name) = 4
fault_rank (BadTarget text) = 5
fault_rank (TwoForOne path) = 6

-- of all faults of the build this comes first
pub record IsFirstPlanFault (rockspec : List ℕ) (fields : Pairs) (fault : PlanFault) : Type 0 where
  pub has : HasPlanFault rockspec fields fault
  pub first : (other : PlanFault) → HasPlanFault rockspec fields other → fault_rank fault ≤ fault_rank other

-- A recipe has the targets of all entries, in order, and the named folders, in order, and nothing else.
pub record IsRecipe (fields : Pairs) (recipe : Recipe) : Type 0 where
  pub sorted : IsStrictlySortedBy dest_cmp (map (λ target. target.to) recipe.files)
  pub files : (target : Target) → Contains recipe.files target ↔ IsTarget fields target
  pub sorted_folders : IsStrictlySortedBy path_cmp recipe.folders
  pub folders : (folder : List ℕ) → Contains recipe.folders folder ↔ Contains (map source (named_folders fields)) folder

-- the plan of a build of a rock whose rockspec has this file name
abbrev pub HasPlan : (rockspec : List ℕ) → (fields : Pairs) → BuildPlan → Type 0
HasPlan rockspec fields (Refused fault) = IsFirstPlanFault rockspec fields fault
HasPlan rockspec fields (Build recipe) =
    ((fault : PlanFault) → ¬ HasPlanFault rockspec fields fault) × IsRecipe fields recipe
