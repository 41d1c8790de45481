use Rattle.lua_value.specs.Ordered.{IsOrdered}
use Rattle.rockspec_table.proofs.Merged.{IsMergedSoFar}
use Rattle.rockspec_table.proofs.merging.merged_fields.Given as goal

abbrev pub invariant-loop-at : goal.invariant-loop-at
invariant-loop-at l = record {
  ordered : IsOrdered l.merged;
  so_far : IsMergedSoFar l.globals l.merged l.at;
}
