use Rattle.std.proofs.Common.{◌≡◌, take}
use Rattle.manifest_text.proofs.view.ViewRock.copy.Given as goal

abbrev pub invariant-loop-dependency : goal.invariant-loop-dependency
invariant-loop-dependency l = l.dependencies ≡ take l.dependency-index l.self.dependencies
