use Rattle.lua_value.specs.Ordered.{IsOrdered}
use Rattle.table_tests.proofs.made.numbers.Given as goal

abbrev pub invariant-loop-key : goal.invariant-loop-key
invariant-loop-key l = IsOrdered l.made
