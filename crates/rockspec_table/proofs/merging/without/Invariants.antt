use Rattle.lua_value.specs.declared.key.Key.TheVariants.{Text}
use Rattle.lua_value.specs.Ordered.{IsOrdered}
use Rattle.rockspec_table.proofs.Merged.{IsWithoutSoFar}
use Rattle.rockspec_table.proofs.merging.without.Given as goal

abbrev pub invariant-loop-at : goal.invariant-loop-at
invariant-loop-at l = record {
  ordered : IsOrdered l.others;
  so_far : IsWithoutSoFar (Text l.name) l.table l.others l.at;
}
