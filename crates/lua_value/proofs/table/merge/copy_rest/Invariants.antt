use Rattle.std.proofs.Common.{◌≡◌, ◌++◌, drop}
use Rattle.chunked_list.specs.Items.{items, IsChunked}
use Rattle.lua_value.proofs.table.merge.copy_rest.Given as goal

abbrev pub invariant-loop-at : goal.invariant-loop-at
invariant-loop-at l = record {
  whole : IsChunked l.into;
  so_far : items l.into ++ drop l.at (items l.from) ≡ items l.initial.into ++ drop l.initial.at (items l.from);
}
