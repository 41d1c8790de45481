use Rattle.std.proofs.Common.{◌≡◌, ◌++◌, map, take}
use Rattle.tree_model.specs.Tree.{file_at, item_file}
use Rattle.tree_model.proofs.staging.add_items.Given as goal

abbrev pub invariant-loop-item : goal.invariant-loop-item
invariant-loop-item l = map file_at l.files.items ≡ map file_at l.initial.files.items ++ map item_file (take l.item-index l.items)
