use Rattle.std.proofs.Common.{take}
use Rattle.std.specs.List.{All}
use Rattle.tree_claims.specs.Index.{IsFree}
use Rattle.tree_claims.proofs.search.first_hit.Given as goal

abbrev pub invariant-loop-at : goal.invariant-loop-at
invariant-loop-at l = All (IsFree l.others l.own) (take l.at l.own)
