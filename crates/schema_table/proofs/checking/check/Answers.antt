use Rattle.std.proofs.lemmas.Result.{err_from_is_err_and}
use Rattle.schema_table.proofs.Answered.{visit_answer}
use Rattle.schema_table.proofs.Reached.{faultless_table}
use Rattle.schema_table.proofs.checking.check.Goals as goal

pub returns-in_err-visit_entries : goal.returns-in_err-visit_entries
returns-in_err-visit_entries c =
    let p = err_from_is_err_and c.from_residual.result c.from_residual.ensures.1 in
    rw (p.1, p.2) (visit_answer c.args.rows.now c.args.value.now c.args.format _ c.in_err-visit_entries.ensures)

pub returns-in-Some : goal.returns-in-Some
returns-in-Some c = record {
  faultless = faultless_table c.args.rows.now c.args.format c.args.value.now c.in_ok-visit_entries.ensures;
  missing = c.in-Some.ensures.1;
  earlier = c.in-Some.ensures.2;
}

pub returns-in-None : goal.returns-in-None
returns-in-None c = record {
  faultless = faultless_table c.args.rows.now c.args.format c.args.value.now c.in_ok-visit_entries.ensures;
  complete = c.in-None.ensures;
}
