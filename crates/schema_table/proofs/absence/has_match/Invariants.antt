use Rattle.schema_table.proofs.Absent.{HasNoMatchBefore}
use Rattle.schema_table.proofs.absence.has_match.Given as goal

abbrev pub invariant-loop-at : goal.invariant-loop-at
invariant-loop-at l = HasNoMatchBefore l.part l.table l.at
