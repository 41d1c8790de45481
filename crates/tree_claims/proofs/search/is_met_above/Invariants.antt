use Rattle.std.proofs.Common.{◌≡◌, ℕ, ◌<◌, get_or, take}
use Rattle.std.specs.List.{Any}
use Rattle.tree_claims.proofs.search.is_met_above.Given as goal

-- none of the folders so far is there
abbrev pub invariant-loop-at : goal.invariant-loop-at
invariant-loop-at l = (k : ℕ) → k < l.at → get_or l.path k 0 ≡ 47 → Any (λ other. other.path ≡ take k l.path) l.entries → ⊥
