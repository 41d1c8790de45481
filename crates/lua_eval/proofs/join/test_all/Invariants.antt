use Rattle.std.proofs.Common.{◌≤◌, length, drop, map}
use Rattle.lua_value.specs.View.{datum}
use Rattle.lua_eval.specs.Texts.{IsJoined}
use Rattle.lua_eval.proofs.join.test_all.Given as goal

abbrev pub invariant-loop-at : goal.invariant-loop-at
invariant-loop-at l = record {
  within : l.at ≤ length l.operators;
  joined : IsJoined (drop l.at (map datum l.values)) (drop l.at l.operators);
}

abbrev pub decreases-loop-at : goal.decreases-loop-at
decreases-loop-at l = l.at
