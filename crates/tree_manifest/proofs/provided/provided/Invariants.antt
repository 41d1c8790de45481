use Rattle.tree_manifest.specs.Forms.{path_group}
use Rattle.tree_manifest.proofs.Turns.{AreFound, IsProvided}
use Rattle.tree_manifest.proofs.provided.provided.Given as goal

abbrev pub invariant-loop-group : goal.invariant-loop-group
invariant-loop-group l = AreFound path_group IsProvided l.groups l.group-index l.found
