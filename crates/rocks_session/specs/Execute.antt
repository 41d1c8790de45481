-- What a command leaves that was carried out, refused or broken off. (This project's own.)
use Rattle.std.specs.Prelude.{◌≡◌, ◌+◌, ◌≤◌, List, Option, IfSome, IsSome, Result, IfOk, IfErr, IsErrOf}
use Rattle.rocks_text.specs.Files.{Files}
use Rattle.rocks_outside.specs.Device.{DeviceState}
use Rattle.rocks_outside.specs.Shelf.{ShelfState}
use Rattle.rock_record.specs.declared.rock.Rock.{Rock}
use Rattle.tree_model.specs.Tree.{tree_of}
use Rattle.rocks_session.specs.Faults.{HasCause}
use Rattle.rocks_session.specs.Opened.{IsTreeOf, IsOpenAs}
use Rattle.rocks_session.specs.Step.{Outcome, IsStep, IsOutcomeOf, ticks}
use Rattle.rocks_session.specs.declared.fault.SessionFault.{SessionFault}
use Rattle.rocks_session.specs.declared.fault.SessionFault.TheVariants.{ShelfFault}
use Rattle.rocks_reply.specs.declared.reply.Reply.{Reply}
use Rattle.rocks_version.specs.declared.key.RockKey.{RockKey}
use Rattle.rocks_command.specs.declared.command.Command.{Command}
use Rattle.rocks_command.specs.declared.command.Command.TheVariants.{Add, Compare, Eval, Install, Lint}

-- An outcome of the command over a set: the model's only one where the shelf tells what the servers hold, and one that
-- the command can have whatever they hold.
pub record IsModels (command : Command) (set : List Rock) (servers : Option (List Files)) (outcome : Outcome) : Type 0 where
  pub told : IfSome servers (λ held. IsStep held set command outcome)
  pub only : IfSome servers (λ held. (other : Outcome) → IsStep held set command other → other ≡ outcome)
  pub own : IsOutcomeOf command set outcome

-- the outcome that a reply tells, where the set is kept
abbrev pub outcome_of : List Rock → Reply → Outcome
outcome_of set reply = record { set = set; refusal = reply.refusal; text = reply.text }

-- the reply, the tree and the device after a command that was carried out, or refused
pub record CarriesOut (command : Command) (set : List Rock) (servers : Option (List Files)) (reply : Reply) (keys : List RockKey) (before now : DeviceState) : Type 0 where
  pub outcome : Outcome
  pub model : IsModels command set servers outcome
  pub refusal : reply.refusal ≡ outcome.refusal
  pub text : reply.text ≡ outcome.text
  pub tree : IsTreeOf outcome.set keys
  pub files : IfSome now.files (λ files. files ≡ tree_of outcome.set)
  -- each new file is written once, and all are synced once, if there are any
  pub clock : IfSome before.files (λ _. now.clock ≡ before.clock + ticks set outcome)

-- nothing has changed but the counts of looks and faults
pub record IsLeft (keys_before keys_now : List RockKey) (before now : DeviceState) : Type 0 where
  pub tree : keys_now ≡ keys_before
  pub files : now.files ≡ before.files
  pub said : now.said ≡ before.said
  pub clock : now.clock ≡ before.clock

-- what a command never does, whatever comes of it, and why it breaks off
pub record Keeps (result : Result Reply SessionFault) (before now : DeviceState) (shelf_before shelf_now : ShelfState) : Type 0 where
  pub said : now.said ≡ before.said
  pub clock : before.clock ≤ now.clock
  pub holds : shelf_now.holds ≡ shelf_before.holds
  pub servers : shelf_now.servers ≡ shelf_before.servers
  pub device_faults : before.faults ≤ now.faults
  pub shelf_faults : shelf_before.faults ≤ shelf_now.faults
  pub cause : IfErr result (HasCause before.faults now.faults shelf_before.faults shelf_now.faults)

-- a command that keeps tree and device, whatever it answers
abbrev pub IsReadOnly : Command → Type 0
IsReadOnly (Add key) = ⊥
IsReadOnly (Install key) = ⊥
IsReadOnly (Eval path) = Unit {0}
IsReadOnly (Compare left right) = Unit {0}
IsReadOnly (Lint key) = Unit {0}

-- a command over a tree that was opened, a device and a shelf
pub record Executes (command : Command) (result : Result Reply SessionFault) (keys_before keys_now : List RockKey) (before now : DeviceState) (shelf_before shelf_now : ShelfState) : Type 0 where
  -- from whatever set the tree stands for
  pub carried : IfOk result (λ reply. (set : List Rock) → IsOpenAs set keys_before before
      → CarriesOut command set shelf_before.holds reply keys_now before now)
  -- a refusal changes nothing
  pub refused : IfOk result (λ reply. IsSome reply.refusal → IsLeft keys_before keys_now before now)
  -- nor does a command that a shelf's fault broke off
  pub broken_off : IsErrOf result ShelfFault → IsLeft keys_before keys_now before now
  -- a command that only reads changes nothing, whatever comes of it
  pub untouched : IsReadOnly command → IsLeft keys_before keys_now before now
  pub keeps : Keeps result before now shelf_before shelf_now
