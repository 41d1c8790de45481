-- What an object may tell of itself. A real folder or stream tells nothing; one in memory tells all.
use Rattle.std.specs.Prelude.{Option, None, Some}

-- Both tell it, and it is related so; or neither tells it. Whether an object tells something never changes.
abbrev pub WhereTold : {A B : Type 0} → (A → B → Type 0) → Option A → Option B → Type 0
WhereTold R None None = Unit {0}
WhereTold R (Some before) (Some now) = R before now
WhereTold R None (Some now) = ⊥
WhereTold R (Some before) None = ⊥
