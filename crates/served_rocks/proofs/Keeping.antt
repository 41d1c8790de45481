-- What calls of a shelf leave, one after another.
use Rattle.std.proofs.Common.{◌∙◌, refl, arith}
use Rattle.std.specs.Prelude.{Ok}
use Rattle.rocks_outside.specs.Shelf.{ShelfState, AsksOnly}
use Rattle.served_rocks.specs.Asking.{IsKept}

pub kept_same : (shelf : ShelfState) → IsKept shelf shelf
kept_same shelf = record { holds = refl; servers = refl; faults = omega arith }

pub kept_so : {first mid now : ShelfState} → IsKept first mid → IsKept mid now → IsKept first now
kept_so one two = record { holds = two.holds ∙ one.holds; servers = two.servers ∙ one.servers; faults = omega (arith, one.faults, two.faults) }

-- after a call of the shelf that was answered
pub kept_on : {T : Type 0} {x : T} {first mid now : ShelfState} → IsKept first mid → AsksOnly {T = T} (Ok x) mid now → IsKept first now
kept_on one asks = record { holds = asks.holds ∙ one.holds; servers = asks.servers ∙ one.servers; faults = omega (arith, one.faults, asks.faults) }
