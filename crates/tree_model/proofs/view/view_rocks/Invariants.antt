use Rattle.std.proofs.Common.{◌≡◌, map, take}
use Rattle.tree_sets.specs.Sets.{keys_in}
use Rattle.tree_sets.specs.View.{view_rock}
use Rattle.tree_model.proofs.view.view_rocks.Given as goal

abbrev pub invariant-loop-entry : goal.invariant-loop-entry
invariant-loop-entry l = l.rocks ≡ map (view_rock (keys_in l.entries)) (take l.entry-index l.entries)
