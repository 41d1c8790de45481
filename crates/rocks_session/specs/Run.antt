-- What a run leaves. (This project's own.)
use Rattle.std.specs.Prelude.{ℕ, ◌≡◌, ◌≤◌, ◌+◌, ◌⊎◌, List, ◌++◌, take, Option, None, Some, IfSome, Result, Ok}
use Rattle.rocks_text.specs.Files.{Files}
use Rattle.rocks_outside.specs.Device.{DeviceState}
use Rattle.rocks_outside.specs.Told.{WhereTold}
use Rattle.rock_record.specs.declared.rock.Rock.{Rock}
use Rattle.tree_model.specs.Tree.{tree_of}
use Rattle.rocks_session.specs.Execute.{IsModels}
use Rattle.rocks_session.specs.Opened.{Opens}
use Rattle.rocks_session.specs.Step.{Outcome, IsStep, ticks}
use Rattle.rocks_reply.specs.declared.reply.Refusal.{Refusal}
use Rattle.rocks_session.specs.declared.status.Status.{Status}
use Rattle.rocks_session.specs.declared.status.Status.TheVariants.{Done, Refused, BadWords, NoMemory, DeviceFault, ShelfFault, Damaged}
use Rattle.rocks_command.specs.declared.command.Command.{Command}
use Rattle.rocks_command.specs.declared.fault.WordsFault.{WordsFault}

abbrev pub status_of : Option Refusal → Status
status_of None = Done
status_of (Some refusal) = Refused

-- the status is that of a run that carried its command out
abbrev pub HasRun : Status → Type 0
HasRun Done = Unit {0}
HasRun Refused = Unit {0}
HasRun BadWords = ⊥
HasRun NoMemory = ⊥
HasRun DeviceFault = ⊥
HasRun ShelfFault = ⊥
HasRun (Damaged path) = ⊥

-- the run carried its command out, unless memory ran out or one of these came
abbrev pub HasRunUnless : (device_failed shelf_failed : Type 0) → Status → Type 0
HasRunUnless device_failed shelf_failed status = HasRun status ⊎ ((status ≡ NoMemory) ⊎ (device_failed ⊎ shelf_failed))

-- the status and the device after a run that carried its command out
pub record Runs (command : Command) (set : List Rock) (servers : Option (List Files)) (status : Status) (before now : DeviceState) : Type 0 where
  pub outcome : Outcome
  pub model : IsModels command set servers outcome
  pub ends : status ≡ status_of outcome.refusal
  pub files : IfSome now.files (λ files. files ≡ tree_of outcome.set)
  -- the reply was said, and nothing else
  pub says : WhereTold (λ old new. new ≡ old ++ outcome.text) before.said now.said
  -- by one call
  pub clock : IfSome before.files (λ _. now.clock ≡ before.clock + ticks set outcome + 1)

-- the device's files, what it said and its clock are as they were
pub record IsUntouched (before now : DeviceState) : Type 0 where
  pub files : now.files ≡ before.files
  pub said : now.said ≡ before.said
  pub clock : now.clock ≡ before.clock

-- the files are as they were, and of the calls that the clock counts there was one at most, the one that says the reply
pub record OnlySays (before now : DeviceState) : Type 0 where
  pub files : now.files ≡ before.files
  pub clock_kept : before.clock ≤ now.clock
  pub clock_once : now.clock ≤ before.clock + 1

-- the exit code of the program
abbrev pub code_of : Status → ℕ
code_of Done = 0
code_of Refused = 1
code_of BadWords = 2
code_of NoMemory = 3
code_of DeviceFault = 4
code_of ShelfFault = 5
code_of (Damaged path) = 7

-- No more was said than a first part of the model's reply to the words.
abbrev pub SaysAtMost : Result Command WordsFault → Option (List Files) → (before now : DeviceState) → Type 0
SaysAtMost read servers before now = (command : Command) (set : List Rock) → read ≡ Ok command → Opens before.files set
    → IfSome servers (λ held. (outcome : Outcome) → IsStep held set command outcome
    → WhereTold (λ old new. (n : ℕ) × (new ≡ old ++ take n outcome.text)) before.said now.said)
