use Rattle.std.proofs.Common.{◌+◌, length}
use Rattle.rocks_version.proofs.order.+compare_components.Given as goal

abbrev pub decreases-compare_components : goal.decreases-compare_components
decreases-compare_components l = length l.left.now + length l.right.now
