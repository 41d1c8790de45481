use Rattle.std.proofs.Common.{◌≡◌, map, take}
use Rattle.tree_claims.specs.Claims.{claims_of_rock}
use Rattle.tree_claims.specs.Index.{entry_of}
use Rattle.tree_claims.proofs.entry.unsorted.Given as goal

abbrev pub invariant-loop-item : goal.invariant-loop-item
invariant-loop-item l = l.entries.items ≡ map entry_of (claims_of_rock l.key (take l.item-index l.items))
