use Rattle.std.proofs.Common.{◌≡◌, take}
use Rattle.manifest_text.proofs.view.copied_provided.Given as goal

abbrev pub invariant-loop-path : goal.invariant-loop-path
invariant-loop-path l = l.copied ≡ take l.path-index l.provided
