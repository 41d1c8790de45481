use Rattle.std.proofs.Common.{length}
use Rattle.rocks_version.specs.Components.{components}
use Rattle.rocks_constraint.proofs.condition.+begin_with.Given as goal

abbrev pub decreases-begin_with : goal.decreases-begin_with
decreases-begin_with l = length (components l.given.now)
