-- From what `compare` replies to what it leaves.
use Rattle.std.proofs.Common.{◌≡◌, ℕ, List, Option, None, Some, refl, sym, ◌∙◌}
use Rattle.std.specs.Prelude.{Ok}
use Rattle.rocks_text.specs.Files.{Files}
use Rattle.rocks_outside.specs.Device.{DeviceState}
use Rattle.rocks_outside.specs.Shelf.{ShelfState}
use Rattle.rock_record.specs.declared.rock.Rock.{Rock}
use Rattle.rocks_command.specs.declared.command.Command.TheVariants.{Compare}
use Rattle.rocks_version.specs.declared.key.RockKey.{RockKey}
use Rattle.rocks_session.specs.Execute.{CarriesOut, Executes, IsModels, outcome_of}
use Rattle.rocks_session.specs.Opened.{IsOpenAs}
use Rattle.rocks_session.specs.Step.{Outcome, compared, compared_text}
use Rattle.rocks_reply.specs.declared.reply.Reply.{Reply}
use Rattle.rocks_session.proofs.Adding.{answered}
use Rattle.served_rocks.proofs.Keeping.{kept_same}
use Rattle.rocks_session.proofs.Writing.{no_tick}

module _ (left right : List ℕ) where
  -- the model's only outcome
  only_compared : (set : List Rock) (servers : Option (List Files)) (outcome : Outcome) → outcome ≡ compared set left right → IsModels (Compare left right) set servers outcome
  only_compared set None outcome is = record { told = tt; only = tt; own = is }
  only_compared set (Some held) outcome is = record { told = is; only = λ other step. step ∙ sym is; own = is }

  module _ (keys : List RockKey) (device : DeviceState) (shelf : ShelfState) where
    carries : (reply : Reply) → reply.refusal ≡ None → reply.text ≡ compared_text left right → (set : List Rock) → IsOpenAs set keys device → CarriesOut (Compare left right) set shelf.holds reply keys device device
    carries reply is says set opened = record {
      outcome = outcome_of set reply;
      model = only_compared set shelf.holds (outcome_of set reply) (λ i. record { set = set; refusal = is i; text = says i });
      refusal = refl;
      text = refl;
      tree = opened.tree;
      files = opened.opens.files;
      clock = no_tick device.files device.clock set (outcome_of set reply) refl;
    }

    pub compares : (reply : Reply) → reply.refusal ≡ None → reply.text ≡ compared_text left right → Executes (Compare left right) (Ok reply) keys keys device device shelf shelf
    compares reply is says = answered (Compare left right) keys device shelf shelf reply (kept_same shelf) (carries reply is says)
