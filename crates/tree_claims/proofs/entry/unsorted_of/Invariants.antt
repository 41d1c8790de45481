use Rattle.std.proofs.Common.{◌≡◌, map, take}
use Rattle.tree_claims.specs.Claims.{claims_of}
use Rattle.tree_claims.specs.Index.{entry_of}
use Rattle.tree_claims.proofs.entry.unsorted_of.Given as goal

abbrev pub invariant-loop-key : goal.invariant-loop-key
invariant-loop-key l = l.entries.items ≡ map entry_of (claims_of (take l.key-index l.rocks))
