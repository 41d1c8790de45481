use Rattle.std.proofs.Common.{◌≡◌, ◌++◌, map, take}
use Rattle.tree_model.specs.Held.{item_pair}
use Rattle.tree_model.proofs.pairs.add_pairs.Given as goal

abbrev pub invariant-loop-item : goal.invariant-loop-item
invariant-loop-item l = l.pairs.items ≡ l.initial.pairs.items ++ map (item_pair l.key) (take l.item-index l.items)
