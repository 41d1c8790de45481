use Rattle.std.proofs.Common.{◌≡◌, take}
use Rattle.tree_model.specs.Held.{without}
use Rattle.tree_model.proofs.changes.kept.Given as goal

abbrev pub invariant-loop-entry : goal.invariant-loop-entry
invariant-loop-entry l = l.copied.items ≡ without l.removed (take l.entry-index l.entries)
