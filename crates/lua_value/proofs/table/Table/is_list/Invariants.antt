use Rattle.std.proofs.Common.{◌+◌, drop}
use Rattle.chunked_list.specs.Items.{items}
use Rattle.lua_value.specs.Pairs.{IsListFrom, IsList}
use Rattle.lua_value.specs.View.{pairs_of}
use Rattle.lua_value.proofs.table.Table.is_list.Given as goal

abbrev pub invariant-loop-at : goal.invariant-loop-at
invariant-loop-at l = record {
  so_far : IsListFrom (l.at + 1) (pairs_of (drop l.at (items l.self-inside.entries))) → IsList (pairs_of (items l.self-inside.entries));
  from_here : IsList (pairs_of (items l.self-inside.entries)) → IsListFrom (l.at + 1) (pairs_of (drop l.at (items l.self-inside.entries)));
}
