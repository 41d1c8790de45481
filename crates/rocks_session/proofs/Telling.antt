-- From what a command replies that only reads to what it leaves.
use Rattle.std.proofs.Common.{List, refl}
use Rattle.std.specs.Prelude.{Result, Ok, Err, IfOk}
use Rattle.rocks_outside.specs.Device.{DeviceState}
use Rattle.rocks_outside.specs.Shelf.{ShelfState}
use Rattle.rock_record.specs.declared.rock.Rock.{Rock}
use Rattle.rocks_version.specs.declared.key.RockKey.{RockKey}
use Rattle.rocks_command.specs.declared.command.Command.{Command}
use Rattle.rocks_session.specs.Execute.{IsModels, CarriesOut, Executes, outcome_of}
use Rattle.rocks_session.specs.Opened.{IsOpenAs}
use Rattle.rocks_session.specs.Asking.{AsksShelf}
use Rattle.rocks_session.specs.declared.fault.SessionFault.{SessionFault}
use Rattle.rocks_reply.specs.declared.reply.Reply.{Reply}
use Rattle.rocks_session.proofs.Adding.{answered, broken_off}
use Rattle.rocks_session.proofs.Writing.{no_tick}

module _ (command : Command) (keys : List RockKey) (device : DeviceState) (shelf_before shelf_now : ShelfState) where
  carries : (reply : Reply) → ((set : List Rock) → IsModels command set shelf_before.holds (outcome_of set reply)) → (set : List Rock) → IsOpenAs set keys device → CarriesOut command set shelf_before.holds reply keys device device
  carries reply model set opened = record {
    outcome = outcome_of set reply;
    model = model set;
    refusal = refl;
    text = refl;
    tree = opened.tree;
    files = opened.opens.files;
    clock = no_tick device.files device.clock set (outcome_of set reply) refl;
  }

  -- it leaves the device as it was, whatever comes of it
  pub tells : (result : Result Reply SessionFault) → IfOk result (λ reply. (set : List Rock) → IsModels command set shelf_before.holds (outcome_of set reply)) → AsksShelf result shelf_before shelf_now → Executes command result keys keys device device shelf_before shelf_now
  tells (Ok reply) model asks = answered command keys device shelf_before shelf_now reply asks.kept (carries reply model)
  tells (Err fault) model asks = broken_off command keys device shelf_before shelf_now fault asks.kept asks.cause
