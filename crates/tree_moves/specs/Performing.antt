-- What a call leaves of a device that changes its files. (This project's own.)
use Rattle.std.specs.Prelude.{ℕ, ◌≡◌, ◌≤◌, ◌+◌, List, [], ◌∷◌, length, IfSome, OnOk, IsErrOf, Result}
use Rattle.std.specs.FinMap.{remove}
use Rattle.rocks_text.specs.Files.{Files}
use Rattle.rocks_outside.specs.Counts.{HasRisen}
use Rattle.rocks_outside.specs.Device.{paths_from, DeviceState}
use Rattle.rocks_outside.specs.Told.{WhereTold}
use Rattle.rocks_outside.specs.declared.fault.DeviceError.{DeviceError}
use Rattle.rocks_outside.specs.declared.fault.DeviceError.TheVariants as device_error
use Rattle.tree_moves.specs.Moves.{moved, old_folder, staged_in}
use Rattle.tree_moves.specs.declared.fault.JournalFault.{JournalFault}
use Rattle.tree_moves.specs.declared.fault.JournalFault.TheVariants as journal_fault
use Rattle.tree_moves.specs.declared.lists.MoveLists.{MoveLists}

abbrev pub fault_of : DeviceError → JournalFault
fault_of device_error.Failed = journal_fault.DeviceFault
fault_of device_error.NoMemory = journal_fault.NoMemory

-- The files became these by so many calls, where it was done; nothing was said, and the device's fault comes only where it
-- failed.
pub record Performs {E : Type 0} (failed : E) (result : Result Unit E) (whole : Files → Files) (calls : Files → ℕ) (before now : DeviceState) : Type 0 where
  pub files : OnOk result (WhereTold (λ old new. new ≡ whole old) before.files now.files)
  pub ticked : OnOk result (IfSome before.files (λ old. now.clock ≡ before.clock + calls old))
  pub clock : before.clock ≤ now.clock
  pub said : now.said ≡ before.said
  pub faults : before.faults ≤ now.faults
  pub cause : IsErrOf result failed → HasRisen before.faults now.faults

-- the files without some
abbrev pub removed_all : List (List ℕ) → Files → Files
removed_all [] files = files
removed_all (path ∷ paths) files = removed_all paths (remove files path)

-- how many files stand in `old/`
abbrev pub old_count : Files → ℕ
old_count files = length (paths_from old_folder files)

-- how often the clock rises that counts the calls: once for each file that is written, moved or taken away, and twice to make
-- all durable
abbrev pub call_count : MoveLists → Files → ℕ
call_count moves files =
    length moves.staged + 1
    + (length moves.aside + length moves.place
    + (old_count (moved moves.place (moved moves.aside (staged_in moves.staged files))) + 1))
