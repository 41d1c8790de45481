use Rattle.std.proofs.Common.{◌+◌, ◌*◌}
use Rattle.lua_value.specs.Depth.{value_depth, depth}
use Rattle.lua_value.specs.View.{datum}
use Rattle.schema_table.specs.Paths.{referents}
use Rattle.schema_table.proofs.Reached.{IsClearBefore}
use Rattle.schema_table.proofs.visits.+visit.Given as goal

abbrev pub invariant-visit_entries-loop-at : goal.invariant-visit_entries-loop-at
invariant-visit_entries-loop-at l = IsClearBefore l.rows l.format (referents l.path) l.table l.at

abbrev pub decreases-visit : goal.decreases-visit
decreases-visit l = 2 * value_depth (datum l.value.now)

abbrev pub decreases-visit_entries : goal.decreases-visit_entries
decreases-visit_entries l = 2 * depth l.table.now + 1
