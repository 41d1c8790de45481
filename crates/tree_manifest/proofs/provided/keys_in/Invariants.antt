use Rattle.manifest_text.specs.Views.{IsRockKey}
use Rattle.tree_manifest.specs.Forms.{key_line}
use Rattle.tree_manifest.proofs.Turns.{AreFound}
use Rattle.tree_manifest.proofs.provided.keys_in.Given as goal

abbrev pub invariant-loop-text : goal.invariant-loop-text
invariant-loop-text l = AreFound key_line IsRockKey l.texts l.text-index l.found
