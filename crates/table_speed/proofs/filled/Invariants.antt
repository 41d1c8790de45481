use Rattle.lua_value.specs.Ordered.{IsOrdered}
use Rattle.table_speed.proofs.filled.Given as goal

abbrev pub invariant-loop-number : goal.invariant-loop-number
invariant-loop-number l = IsOrdered l.table
