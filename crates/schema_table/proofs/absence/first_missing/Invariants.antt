use Rattle.schema_table.proofs.Missed.{HasNoneBefore}
use Rattle.schema_table.proofs.absence.first_missing.Given as goal

abbrev pub invariant-loop-number : goal.invariant-loop-number
invariant-loop-number l = HasNoneBefore l.rows l.table l.format l.number
