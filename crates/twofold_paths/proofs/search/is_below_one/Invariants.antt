use Rattle.std.proofs.Common.{◌≡◌, ℕ, ◌<◌, get_or, take}
use Rattle.std.specs.Prelude.{Contains}
use Rattle.twofold_paths.proofs.search.is_below_one.Given as goal

-- none of the folders so far is there
abbrev pub invariant-loop-at : goal.invariant-loop-at
invariant-loop-at l = (k : ℕ) → k < l.at → get_or l.path k 0 ≡ 47 → Contains l.places (record { sort = l.place.sort; path = take k l.path }) → ⊥
