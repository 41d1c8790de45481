-- Which rocks are found in a tree. (This project's own.)
use Rattle.std.specs.Prelude.{ℕ, ◌≡◌, ◌≤◌, ◌⊎◌, List, [], ◌∷◌, IsErrOf, IsSome, IsTrue, Option, Some, None, Result}
use Rattle.std.specs.FinMap.{get}
use Rattle.rocks_text.specs.Files.{Files}
use Rattle.rocks_text.specs.Texts.{is_name}
use Rattle.rocks_outside.specs.Counts.{HasRisen}
use Rattle.rocks_outside.specs.Device.{DeviceState}
use Rattle.rocks_outside.specs.declared.fault.DeviceError.{DeviceError}
use Rattle.rocks_outside.specs.declared.fault.DeviceError.TheVariants.{Failed}
use Rattle.rocks_version.specs.Texts.{is_rock_version}
use Rattle.rocks_version.specs.declared.key.RockKey.{RockKey}
use Rattle.tree_sets.specs.Trees.{record_path}

-- a name as it stands, and a version that a rock may have
abbrev pub IsRockName : RockKey → Type 0
IsRockName key = IsTrue (is_name key.name) × IsTrue (is_rock_version key.version)

-- the rock is found: its folder has a record
abbrev pub IsFound : Files → RockKey → Type 0
IsFound files key = IsRockName key × IsSome (get files (record_path key))

-- the path is that of the record of a rock
abbrev pub IsRecordAt : List ℕ → RockKey → Type 0
IsRecordAt path key = (path ≡ record_path key) × IsRockName key

-- the rock whose record has that path, if it is one's
abbrev pub IsKeyAt : List ℕ → Option RockKey → Type 0
IsKeyAt path (Some key) = IsRecordAt path key
IsKeyAt path None = (key : RockKey) → ¬ (IsRecordAt path key)

-- the rocks whose records are among the paths, in the order of these paths
abbrev pub AreFound : (paths : List (List ℕ)) → List RockKey → Type 0
AreFound [] found = found ≡ []
AreFound (path ∷ paths) [] = IsKeyAt path None × AreFound paths []
AreFound (path ∷ paths) (key ∷ found) =
    (IsRecordAt path key × AreFound paths found) ⊎ (IsKeyAt path None × AreFound paths (key ∷ found))

-- ---- calls that look

-- the device is as it was but for its counts of looks and faults, and its fault comes only where it failed
pub record AsksDevice {T : Type 0} (result : Result T DeviceError) (before now : DeviceState) : Type 0 where
  pub files : now.files ≡ before.files
  pub said : now.said ≡ before.said
  pub clock : now.clock ≡ before.clock
  pub faults : before.faults ≤ now.faults
  pub cause : IsErrOf result Failed → HasRisen before.faults now.faults
