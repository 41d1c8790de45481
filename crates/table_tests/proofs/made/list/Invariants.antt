use Rattle.lua_value.specs.Ordered.{IsOrdered}
use Rattle.table_tests.proofs.made.list.Given as goal

abbrev pub invariant-loop-item : goal.invariant-loop-item
invariant-loop-item l = IsOrdered l.made
