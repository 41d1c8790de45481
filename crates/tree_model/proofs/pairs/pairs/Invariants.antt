use Rattle.std.proofs.Common.{◌≡◌, take}
use Rattle.tree_model.specs.Held.{pairs_of}
use Rattle.tree_model.proofs.pairs.pairs.Given as goal

abbrev pub invariant-loop-entry : goal.invariant-loop-entry
invariant-loop-entry l = l.pairs.items ≡ pairs_of (take l.entry-index l.entries)
