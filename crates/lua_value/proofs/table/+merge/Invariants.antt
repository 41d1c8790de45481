use Rattle.std.proofs.Common.{◌≡◌, ◌≤◌, ◌-◌, ◌+◌, ◌*◌, length, drop}
use Rattle.chunked_list.specs.Items.{items, IsChunked}
use Rattle.lua_value.specs.Depth.{value_depth, depth}
use Rattle.lua_value.specs.Merge.{merged_pairs}
use Rattle.lua_value.specs.View.{datum, pairs_of}
use Rattle.lua_value.proofs.Walk.{joined}
use Rattle.lua_value.proofs.table.+merge.Given as goal

abbrev pub invariant-merge::merged_entries-loop-low : goal.invariant-merge::merged_entries-loop-low
invariant-merge::merged_entries-loop-low l = record {
  whole : IsChunked l.entries;
  low_within : l.low ≤ length (items l.lower);
  high_within : l.high ≤ length (items l.upper);
  so_far : joined (pairs_of (items l.entries)) (merged_pairs (pairs_of (drop l.low (items l.lower))) (pairs_of (drop l.high (items l.upper)))) ≡ merged_pairs (pairs_of (items l.lower)) (pairs_of (items l.upper));
}

abbrev pub decreases-merge::merged_entries-loop-low : goal.decreases-merge::merged_entries-loop-low
decreases-merge::merged_entries-loop-low l = (length (items l.lower) - l.low) + (length (items l.upper) - l.high)

abbrev pub decreases-Table::merged : goal.decreases-Table::merged
decreases-Table::merged l = 3 * depth l.self.now + 2

abbrev pub decreases-merge::merged_entries : goal.decreases-merge::merged_entries
decreases-merge::merged_entries l = 3 * depth (pairs_of (items l.lower.now)) + 1

abbrev pub decreases-merge::merged_value : goal.decreases-merge::merged_value
decreases-merge::merged_value l = 3 * value_depth (datum l.lower.now)
