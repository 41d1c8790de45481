-- How the files of a rock come into a tree.
use Rattle.std.specs.Prelude.{ℕ, ◌≡◌, ◌≤◌, ◌+◌, List, [], ◌∷◌, ◌++◌, length, Option, None, Some, IfSome, IfErr, OnOk, IsErrOf, Result, Ok, Err}
use Rattle.std.specs.FinMap.{insert}
use Rattle.rocks_text.specs.Files.{Files}
use Rattle.rocks_outside.specs.Counts.{HasRisen}
use Rattle.rocks_outside.specs.Device.{DeviceState}
use Rattle.rocks_outside.specs.Told.{WhereTold}
use Rattle.rocks_outside.specs.declared.fault.DeviceError.{DeviceError}
use Rattle.rocks_outside.specs.declared.fault.DeviceError.TheVariants.{Failed}
use Rattle.rocks_constraint.specs.Wanted.{Wanted}
use Rattle.rocks_version.specs.declared.key.RockKey.{RockKey}
use Rattle.rock_record.specs.declared.rock.Rock.{Rock}
use Rattle.rocks_reply.specs.Texts.{added_text, refusal_text}
use Rattle.rocks_reply.specs.declared.reply.Refusal.TheVariants.{Unmet}
use Rattle.rocks_reply.specs.declared.reply.Reply.{Reply}
use Rattle.tree_model.specs.Tree.{files_of}
use Rattle.rocks_session.specs.Faults.{IsDeviceFault}
use Rattle.rocks_session.specs.Step.{unmet}
use Rattle.rocks_session.specs.declared.fault.SessionFault.{SessionFault}

abbrev pub File : Type 0
File = List ℕ × List ℕ

-- the files with others put over them, one after another
abbrev pub put_all : List File → Files → Files
put_all [] files = files
put_all (file ∷ more) files = put_all more (insert files file.0 file.1)

-- these were written over those of the device
pub record Writes (result : Result Unit DeviceError) (new : List File) (before now : DeviceState) : Type 0 where
  pub files : OnOk result (WhereTold (λ old after. after ≡ put_all new old) before.files now.files)
  pub ticked : OnOk result (IfSome before.files (λ _. now.clock ≡ before.clock + length new))
  pub clock : before.clock ≤ now.clock
  pub said : now.said ≡ before.said
  pub faults : before.faults ≤ now.faults
  pub cause : IsErrOf result Failed → HasRisen before.faults now.faults

-- the rock joined the tree, and its files were written and synced
pub record Installs (result : Result Unit SessionFault) (key : RockKey) (new : List File) (keys_before keys_now : List RockKey) (before now : DeviceState) : Type 0 where
  pub tree : OnOk result (keys_now ≡ keys_before ++ key ∷ [])
  pub files : OnOk result (WhereTold (λ old after. after ≡ put_all new old) before.files now.files)
  pub ticked : OnOk result (IfSome before.files (λ _. now.clock ≡ before.clock + length new + 1))
  pub clock : before.clock ≤ now.clock
  pub said : now.said ≡ before.said
  pub faults : before.faults ≤ now.faults
  pub cause : IfErr result (IsDeviceFault before.faults now.faults)

-- a rock that needs nothing more has joined the tree; else the reply says what it needs, and nothing was called
abbrev pub IsJoined : Rock → Reply → (keys_before keys_now : List RockKey) → (before now : DeviceState) → Option Wanted → Type 0
IsJoined rock reply keys_before keys_now before now None =
    (reply ≡ record { refusal = None; text = added_text rock.key })
    × Installs (Ok tt) rock.key (files_of rock) keys_before keys_now before now
IsJoined rock reply keys_before keys_now before now (Some wanted) =
    (reply ≡ record { refusal = Some (Unmet wanted); text = refusal_text (Unmet wanted) })
    × (keys_now ≡ keys_before) × (now ≡ before)

-- what a call leaves that takes a rock into a tree
abbrev pub JoinsTree : Rock → Result Reply SessionFault → (keys_before keys_now : List RockKey) → (before now : DeviceState) → Type 0
JoinsTree rock (Ok reply) keys_before keys_now before now =
    IsJoined rock reply keys_before keys_now before now (unmet keys_before rock.key rock.dependencies)
JoinsTree rock (Err fault) keys_before keys_now before now =
    Installs (Err fault) rock.key (files_of rock) keys_before keys_now before now
