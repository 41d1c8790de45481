use Rattle.tree_manifest.specs.Forms.{rock_group}
use Rattle.tree_manifest.proofs.Turns.{AreFound, IsRockView}
use Rattle.tree_manifest.proofs.rocks.rocks.Given as goal

abbrev pub invariant-loop-group : goal.invariant-loop-group
invariant-loop-group l = AreFound rock_group IsRockView l.groups l.group-index l.found.items
