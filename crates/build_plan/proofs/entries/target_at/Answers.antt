use Rattle.std.proofs.Common.{refl, sym, ap, ◌∙◌}
use Rattle.build_targets.specs.Meanings.{meaning_at}
use Rattle.build_plan.proofs.Meant.{entry_there}
use Rattle.build_plan.proofs.entries.target_at.Goals as goal

pub returns-in-Ok : goal.returns-in-Ok
returns-in-Ok c = (
  _,
  entry_there c.args.listing c.args.table.now c.args.at _ c.entry_at.ensures.entry,
  ap (meaning_at c.args.listing c.entry_at.result.0.now) (sym c.bytes_of.ensures) ∙ sym c.in_ok-target.ensures ∙ c.in-Ok.is,
)

pub returns-in-Err : goal.returns-in-Err
returns-in-Err c = (
  _,
  entry_there c.args.listing c.args.table.now c.args.at _ c.entry_at.ensures.entry,
  (_, refl, ap (meaning_at c.args.listing c.entry_at.result.0.now) (sym c.bytes_of.ensures) ∙ sym c.in_ok-target.ensures ∙ c.in-Err.is),
)
