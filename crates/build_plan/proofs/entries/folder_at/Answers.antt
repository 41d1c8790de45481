use Rattle.std.proofs.Common.{ap, sym, ◌∙◌, Some}
use Rattle.build_plan.specs.declared.fault.PlanFault.TheVariants.{BadTarget}
use Rattle.build_plan.proofs.Meant.{text_there}
use Rattle.build_plan.proofs.Stops.{folder_blamed, folder_named}
use Rattle.build_plan.proofs.entries.folder_at.Goals as goal

pub returns-in-Some : goal.returns-in-Some
returns-in-Some c =
    let named = folder_named c.args.rockspec.now c.bytes_of-text.result.now c.in-Some.folder c.in_ok-folder.field-0 c.in_ok-folder.ensures c.in-Some.is in
    (c.bytes_of-text.result.now, text_there c.args.table.now c.args.at _ c.entry_at.ensures.entry ∙ ap Some (sym c.bytes_of-text.ensures), named.0, named.1)

pub returns-in_ok-copied-in-None : goal.returns-in_ok-copied-in-None
returns-in_ok-copied-in-None c = (
  c.bytes_of-text.result.now,
  text_there c.args.table.now c.args.at _ c.entry_at.ensures.entry ∙ ap Some (sym c.bytes_of-text.ensures),
  λ i. BadTarget (c.in_ok-copied-in-None.ensures i),
  folder_blamed c.args.rockspec.now c.bytes_of-text.result.now c.in_ok-folder.field-0 c.in_ok-folder.ensures c.in-None.is,
)
