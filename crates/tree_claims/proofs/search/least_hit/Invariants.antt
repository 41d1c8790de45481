use Rattle.std.proofs.Common.{take}
use Rattle.std.specs.Option.{option_copied}
use Rattle.tree_claims.specs.Index.{IsLeastHit}
use Rattle.tree_claims.proofs.search.least_hit.Given as goal

abbrev pub invariant-loop-other : goal.invariant-loop-other
invariant-loop-other l = IsLeastHit (take l.other-index l.others) l.mine (option_copied l.least)
