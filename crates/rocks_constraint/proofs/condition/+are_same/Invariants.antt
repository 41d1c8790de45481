use Rattle.std.proofs.Common.{length}
use Rattle.rocks_version.specs.Components.{components}
use Rattle.rocks_constraint.proofs.condition.+are_same.Given as goal

abbrev pub decreases-are_same : goal.decreases-are_same
decreases-are_same l = length (components l.left.now)
