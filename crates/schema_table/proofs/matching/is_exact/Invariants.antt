use Rattle.std.proofs.Common.{◌≡◌}
use Rattle.schema_table.proofs.Matched.{is_exact_from}
use Rattle.schema_table.proofs.matching.is_exact.Given as goal

abbrev pub invariant-loop-part : goal.invariant-loop-part
invariant-loop-part l = is_exact_from l.parts l.part-index ≡ is_exact_from l.parts 0
