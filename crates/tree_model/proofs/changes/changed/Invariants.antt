use Rattle.std.proofs.Common.{◌≡◌, take}
use Rattle.tree_model.specs.Held.{changed}
use Rattle.tree_sets.specs.Sets.{entries_of}
use Rattle.tree_model.proofs.changes.changed.Given as goal

abbrev pub invariant-loop-rock : goal.invariant-loop-rock
invariant-loop-rock l = l.made.items ≡ changed (entries_of (take l.rock-index l.added)) l.removed l.entries
