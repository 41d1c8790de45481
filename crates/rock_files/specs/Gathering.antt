-- What the steps of a rock find, and which of them fails first.
use Rattle.std.specs.Prelude.{ℕ, ◌≡◌, ◌<◌, ◌+◌, Bool, ◌&&◌, nat_le, nat_lt, List, [], length, take, map, if◌then◌else◌, Option, None, Some, IfSome, slice_get, unwrap_or}
use Rattle.std.specs.List.{filter_map, sum}
use Rattle.std.specs.List.Sorted.{IsPermutation, IsSortedByKey}
use Rattle.std.specs.Option.{option_map}
use Rattle.std.specs.FinMap.{get}
use Rattle.rocks_text.specs.Files.{Files, path_cmp}
use Rattle.rocks_text.specs.Items.{item_cmp}
use Rattle.rocks_text.specs.Paths.{joined}
use Rattle.rocks_text.specs.Texts.{is_file_path}
use Rattle.rocks_text.specs.declared.item.Item.{Item}
use Rattle.rock_record.specs.declared.limits.TheConstants.{LONGEST_FILE, MOST_FILES, MOST_BYTES}
use Rattle.rock_parts.specs.Parts.{item_made, own_made}
use Rattle.rock_parts.specs.declared.parts.Step.{Step}
use Rattle.rock_parts.specs.declared.parts.Step.TheVariants.{Read, NoFile}
use Rattle.rock_files.specs.declared.fault.BuildFault.{BuildFault}
use Rattle.rock_files.specs.declared.fault.BuildFault.TheVariants.{NoSourceFolder, MissingFile, TooLarge, BadTarget, ShelfFault, NoMemory}
use Rattle.rock_files.specs.declared.gathering.Gathered.{Gathered}

-- what a folder has at a path: nothing, where the whole path is too long for a server
abbrev pub held_in : Files → (folder path : List ℕ) → Option (List ℕ)
held_in files folder path = if is_file_path (joined folder path) then get files (joined folder path) else None

-- a step, and the bytes that it found
pub record Found : Type 0 where
  pub step : Step
  pub bytes : Option (List ℕ)

abbrev pub bytes_found : Files → (folder : List ℕ) → Step → Option (List ℕ)
bytes_found files folder (Read source) = held_in files folder source.from
bytes_found files folder (NoFile named) = None

-- what each step finds in a folder
abbrev pub found_in : Files → (folder : List ℕ) → List Step → List Found
found_in files folder steps = map (λ step. record { step = step; bytes = bytes_found files folder step }) steps

-- ---- the first failure

-- how many bytes were found
abbrev pub size_of : List Found → ℕ
size_of found = sum (map (λ one. length (unwrap_or one.bytes [])) found)

-- the rock may have one file more behind those before it
abbrev pub fits : (before : List Found) → (bytes : List ℕ) → Bool
fits before bytes =
    nat_le (length bytes) LONGEST_FILE
    && (nat_lt (length before) MOST_FILES && nat_le (size_of before + length bytes) MOST_BYTES)

-- the path that a step is told by
abbrev pub path_of : Step → List ℕ
path_of (Read source) = source.from
path_of (NoFile folder) = folder

abbrev pub fault_with : (before : List Found) → (path : List ℕ) → Option (List ℕ) → Option BuildFault
fault_with before path None = Some (MissingFile path)
fault_with before path (Some bytes) = if fits before bytes then None else Some (TooLarge path)

-- why a step fails behind those before it, if it does
abbrev pub fault_at : (before : List Found) → Found → Option BuildFault
fault_at before one = fault_with before (path_of one.step) one.bytes

-- no step fails
abbrev pub NoneFails : List Found → Type 0
NoneFails found = (place : ℕ) (one : Found) → slice_get found place ≡ Some one → fault_at (take place found) one ≡ None

-- of the steps that fail this is the fault of the first
pub record FailsFirst (found : List Found) (fault : BuildFault) : Type 0 where
  pub place : ℕ
  pub one : Found
  pub is : slice_get found place ≡ Some one
  pub fails : fault_at (take place found) one ≡ Some fault
  pub first : (earlier : ℕ) (other : Found) → earlier < place → slice_get found earlier ≡ Some other
      → fault_at (take earlier found) other ≡ None

-- ---- the files

-- the item that a step made, with its bytes, if it made one
abbrev pub item_of : Found → Option (Item × List ℕ)
item_of one = option_map (λ item. (item, unwrap_or one.bytes [])) (item_made one.step)

-- the same of an own file
abbrev pub own_of : Found → Option (List ℕ × List ℕ)
own_of one = option_map (λ path. (path, unwrap_or one.bytes [])) (own_made one.step)

-- these are the files of all steps, in order
pub record AreFilesOf (found : List Found) (gathered : Gathered) : Type 0 where
  pub items : IsPermutation (filter_map item_of found) gathered.items
  pub items_in_order : IsSortedByKey (λ file. file.0) item_cmp gathered.items
  pub own : IsPermutation (filter_map own_of found) gathered.own
  pub own_in_order : IsSortedByKey (λ file. file.0) path_cmp gathered.own

-- where the shelf tells, the steps found what the server has in the folder
abbrev pub IsFoundOn : Option (List Files) → (server : ℕ) → (folder : List ℕ) → List Step → List Found → Type 0
IsFoundOn holds server folder steps found = IfSome holds (λ servers. (files : Files)
    → slice_get servers server ≡ Some files → found ≡ found_in files folder steps)

-- no step failed, and these are their files
pub record Gathers (holds : Option (List Files)) (server : ℕ) (folder : List ℕ) (steps : List Step) (gathered : Gathered) : Type 0 where
  pub found : List Found
  pub steps_taken : map (λ one. one.step) found ≡ steps
  pub none_fails : NoneFails found
  pub files : AreFilesOf found gathered
  pub told : IsFoundOn holds server folder steps found

-- where the shelf tells, a fault is that of the first step that fails
abbrev pub IsFirstFault : Option (List Files) → (server : ℕ) → (folder : List ℕ) → List Step → BuildFault → Type 0
IsFirstFault holds server folder steps fault = IfSome holds (λ servers. (files : Files)
    → slice_get servers server ≡ Some files → FailsFirst (found_in files folder steps) fault)

abbrev pub IsFaultOf : Option (List Files) → (server : ℕ) → (folder : List ℕ) → List Step → BuildFault → Type 0
IsFaultOf holds server folder steps NoSourceFolder = ⊥
IsFaultOf holds server folder steps (MissingFile path) = IsFirstFault holds server folder steps (MissingFile path)
IsFaultOf holds server folder steps (TooLarge path) = IsFirstFault holds server folder steps (TooLarge path)
IsFaultOf holds server folder steps (BadTarget path) = ⊥
IsFaultOf holds server folder steps ShelfFault = Unit {0}
IsFaultOf holds server folder steps NoMemory = Unit {0}
