-- Counts that only rise. One that a u64 keeps stands still at that type's end, and there it counts as risen.
use Rattle.std.specs.Prelude.{ℕ, ◌≡◌, ◌+◌, ◌-◌, ◌^◌, ◌≤◌, ◌⊎◌, min}

-- the count has risen
abbrev pub HasRisen : ℕ → ℕ → Type 0
HasRisen before now = min (before + 1) (2 ^ 64 - 1) ≤ now

-- the count has risen by one, or stands at the end
abbrev pub RisesByOne : ℕ → ℕ → Type 0
RisesByOne before now = (now ≡ before + 1) ⊎ ((before ≡ 2 ^ 64 - 1) × (now ≡ before))
