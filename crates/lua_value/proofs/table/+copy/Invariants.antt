use Rattle.std.proofs.Common.{◌≡◌, ◌+◌, ◌*◌, ◌++◌, drop}
use Rattle.chunked_list.specs.Items.{items, IsChunked}
use Rattle.lua_value.specs.Depth.{value_depth, depth}
use Rattle.lua_value.specs.View.{datum}
use Rattle.lua_value.proofs.table.+copy.Given as goal

abbrev pub invariant-Table::copy-loop-at : goal.invariant-Table::copy-loop-at
invariant-Table::copy-loop-at l = record {
  whole : IsChunked l.entries;
  so_far : items l.entries ++ drop l.at (items l.self-inside.entries) ≡ items l.self-inside.entries;
}

abbrev pub decreases-Table::copy : goal.decreases-Table::copy
decreases-Table::copy l = 3 * depth l.self.now + 2

abbrev pub decreases-copy::copy_entry : goal.decreases-copy::copy_entry
decreases-copy::copy_entry l = 3 * value_depth (datum l.entry.now.1) + 1

abbrev pub decreases-Value::copy : goal.decreases-Value::copy
decreases-Value::copy l = 3 * value_depth (datum l.self.now)
