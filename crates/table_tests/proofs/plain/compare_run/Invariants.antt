use Rattle.lua_value.specs.Ordered.{IsOrdered}
use Rattle.table_tests.proofs.plain.compare_run.Given as goal

abbrev pub invariant-loop-call : goal.invariant-loop-call
invariant-loop-call g l = IsOrdered l.table
