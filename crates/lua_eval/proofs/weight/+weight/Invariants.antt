use Rattle.std.proofs.Common.{◌≡◌, ◌+◌, ◌*◌}
use Rattle.std.specs.Prelude.{max}
use Rattle.lua_value.specs.Depth.{value_depth, depth}
use Rattle.lua_value.specs.View.{datum}
use Rattle.lua_value.proofs.Left.{left}
use Rattle.lua_eval.specs.Weights.{pairs_weight}
use Rattle.lua_eval.proofs.weight.+weight.Given as goal

abbrev pub invariant-left_after_entries-loop-at : goal.invariant-left_after_entries-loop-at
invariant-left_after_entries-loop-at l = record {
  weighed : l.rest + pairs_weight l.table ≡ l.left + pairs_weight (left l.at l.table);
  deep : max l.levels (depth l.table) ≡ max l.levels (depth (left l.at l.table));
}

abbrev pub decreases-left_after_table : goal.decreases-left_after_table
decreases-left_after_table l = 4 * depth l.table.now + 3

abbrev pub decreases-left_after_entries : goal.decreases-left_after_entries
decreases-left_after_entries l = 4 * depth l.table.now + 2

abbrev pub decreases-left_after_entry : goal.decreases-left_after_entry
decreases-left_after_entry l = 4 * value_depth (datum l.value.now) + 1

abbrev pub decreases-left_after : goal.decreases-left_after
decreases-left_after l = 4 * value_depth (datum l.value.now)
