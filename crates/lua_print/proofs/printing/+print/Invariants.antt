use Rattle.std.proofs.Common.{◌≡◌, ◌≤◌, ◌+◌, ◌*◌, ◌++◌}
use Rattle.lua_value.specs.Depth.{value_depth, depth}
use Rattle.lua_value.specs.View.{datum}
use Rattle.lua_value.proofs.Left.{left}
use Rattle.lua_print.proofs.Walk.{walk_text}
use Rattle.lua_print.proofs.printing.+print.Given as goal

abbrev pub invariant-print_entries-loop-at : goal.invariant-print_entries-loop-at
invariant-print_entries-loop-at l = record {
  positions_within : l.positions ≤ l.at;
  so_far : l.out.items ++ walk_text l.indent l.positions (left l.at l.table) ≡ l.initial.out.items ++ walk_text l.indent 0 l.table;
}

abbrev pub decreases-print_table : goal.decreases-print_table
decreases-print_table l = 4 * depth l.table.now + 3

abbrev pub decreases-print_entries : goal.decreases-print_entries
decreases-print_entries l = 4 * depth l.table.now + 2

abbrev pub decreases-print_entry : goal.decreases-print_entry
decreases-print_entry l = 4 * value_depth (datum l.value.now) + 1

abbrev pub decreases-print_value : goal.decreases-print_value
decreases-print_value l = 4 * value_depth (datum l.value.now)
