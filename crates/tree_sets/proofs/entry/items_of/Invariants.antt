use Rattle.std.proofs.Common.{◌≡◌, map, take}
use Rattle.tree_sets.proofs.entry.items_of.Given as goal

abbrev pub invariant-loop-item : goal.invariant-loop-item
invariant-loop-item l = l.items ≡ map (λ file. file.0) (take l.item-index l.files)
