-- From what the parts of `lint` leave to what it leaves.
use Rattle.std.proofs.Common.{◌≡◌, ℕ, List, Option, None, Some, IfSome, sym, ap, ◌∙◌, inl, inr, Ok, Err}
use Rattle.std.specs.FinMap.{get}
use Rattle.std.specs.Prelude.{option_and_then}
use Rattle.rocks_text.specs.Files.{Files}
use Rattle.rocks_version.specs.declared.key.RockKey.{RockKey}
use Rattle.rocks_command.specs.declared.command.Command.TheVariants.{Lint}
use Rattle.rocks_outside.specs.Shelf.{ShelfState}
use Rattle.rock_record.specs.declared.rock.Rock.{Rock}
use Rattle.rocks_reply.specs.declared.reply.Refusal.{Refusal}
use Rattle.served_rocks.proofs.OneFetched.{one_checked}
use Rattle.served_rocks.specs.Rockspecs.{spec_path, IsRefused, IsServed, IsServedBy, IsUnserved}
use Rattle.served_rocks.specs.Search.{earliest_at}
use Rattle.served_rocks.specs.declared.fault.Unserved.TheVariants.{Refused as Unserved}
use Rattle.served_rocks.specs.declared.rockspecs.Origin.TheVariants.{Sources}
use Rattle.served_rocks.specs.declared.rockspecs.Served.{Served}
use Rattle.rocks_session.specs.Execute.{IsModels}
use Rattle.rocks_session.specs.Step.{linted, refused, Lints, Outcome}
use Rattle.rocks_session.proofs.Evaluating.{bytes_at}

module _ (key : RockKey) (set : List Rock) where
  abbrev path : List ℕ
  path = spec_path Sources key

  pub one_linting : (held : Option (List ℕ)) (one other : Outcome) → Lints set key held one → Lints set key held other → one ≡ other
  one_linting None one other is too = is ∙ sym too
  one_linting (Some bytes) one other (checked, is, told) (again, too, told_too) = told ∙ ap (linted set key) (one_checked key bytes checked again is too) ∙ sym told_too

  -- the model's only outcome
  models : (servers : List Files) (outcome : Outcome) → Lints set key (earliest_at path servers) outcome → (other : Outcome) → Lints set key (earliest_at path servers) other → other ≡ outcome
  models servers outcome is other too = one_linting (earliest_at path servers) other outcome too is

  -- a rockspec that is served
  pub served_so : (shelf : ShelfState) (served : Served) (outcome : Outcome) → IsServed Sources key shelf served → outcome ≡ linted set key (Ok served.spec) → IsModels (Lint key) set shelf.holds outcome
  served_so shelf served outcome is told = from shelf.holds is.told
    where
      from : (holds : Option (List Files)) → IfSome holds (λ servers. IsServedBy Sources key servers served) → IsModels (Lint key) set holds outcome
      from None by = record { told = tt; only = tt; own = inl (served.spec, told) }
      from (Some servers) by =
          let e : earliest_at path servers ≡ Some served.bytes = bytes_at path servers by.files (Some served.bytes) by.earliest by.bytes in
          let so : Lints set key (earliest_at path servers) outcome = rw e (Ok served.spec, by.checked, told) in
          record { told = so; only = models servers outcome so; own = inl (served.spec, told) }

  refused_at : (servers : List Files) (refusal : Refusal) (outcome : Outcome) → IsRefused Sources key servers refusal → outcome ≡ refused set refusal → Lints set key (earliest_at path servers) outcome
  refused_at servers refusal outcome (inl (none, is)) told =
      let e : earliest_at path servers ≡ None = ap (option_and_then (λ (files : Files). get files path)) none in
      rw e (told ∙ ap (refused set) is)
  refused_at servers refusal outcome (inr by) told =
      let e : earliest_at path servers ≡ Some by.bytes = bytes_at path servers by.files (Some by.bytes) by.earliest by.at in
      rw e (Err refusal, by.checked, told)

  -- none is
  pub refused_so : (holds : Option (List Files)) (refusal : Refusal) (outcome : Outcome) → IsUnserved Sources key holds (Unserved refusal) → outcome ≡ refused set refusal → IsModels (Lint key) set holds outcome
  refused_so None refusal outcome is told = record { told = tt; only = tt; own = inr (refusal, is.0, told) }
  refused_so (Some servers) refusal outcome is told =
      let so = refused_at servers refusal outcome is.1 told in
      record { told = so; only = models servers outcome so; own = inr (refusal, is.0, told) }
