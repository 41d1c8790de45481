use Rattle.std.proofs.Common.{sym, ◌∙◌}
use Rattle.schema_table.proofs.Matched.{deeper, deeper_leads}
use Rattle.schema_table.proofs.matching.is_deeper.Goals as goal

pub returns-in-Some : goal.returns-in-Some
returns-in-Some c =
    let are = c.in-Some.ensures.cases.0 in (
      λ same. deeper _ c.args.row.now c.in-Some.front.now c.in-Some.field-0-0.now are (sym c.matches.ensures ∙ same),
      λ found. c.matches.ensures ∙ deeper_leads _ c.args.row.now c.in-Some.front.now c.in-Some.field-0-0.now are found,
    )
