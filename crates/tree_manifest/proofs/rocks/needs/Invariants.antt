use Rattle.tree_manifest.proofs.Turns.{AreNeeds}
use Rattle.tree_manifest.proofs.rocks.needs.Given as goal

abbrev pub invariant-loop-at : goal.invariant-loop-at
invariant-loop-at l = AreNeeds l.texts l.at l.found
