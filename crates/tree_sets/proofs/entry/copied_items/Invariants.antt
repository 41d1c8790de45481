use Rattle.std.proofs.Common.{◌≡◌, take}
use Rattle.tree_sets.proofs.entry.copied_items.Given as goal

abbrev pub invariant-loop-item : goal.invariant-loop-item
invariant-loop-item l = l.copied ≡ take l.item-index l.items
