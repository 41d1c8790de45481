use Rattle.std.proofs.Common.{◌≡◌, take}
use Rattle.tree_claims.proofs.claims.copied_rocks.Given as goal

abbrev pub invariant-loop-key : goal.invariant-loop-key
invariant-loop-key l = l.copied.items ≡ take l.key-index l.rocks
