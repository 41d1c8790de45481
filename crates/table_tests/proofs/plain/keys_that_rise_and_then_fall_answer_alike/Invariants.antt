use Rattle.lua_value.specs.Ordered.{IsOrdered}
use Rattle.table_tests.proofs.plain.keys_that_rise_and_then_fall_answer_alike.Given as goal

abbrev pub invariant-loop-rise : goal.invariant-loop-rise
invariant-loop-rise g l = IsOrdered l.table

abbrev pub invariant-loop-fall : goal.invariant-loop-fall
invariant-loop-fall g l = IsOrdered l.table
