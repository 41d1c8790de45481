-- What calls of a shelf leave, one after another.
use Rattle.std.proofs.Common.{◌≡◌, ◌≤◌, refl, arith}
use Rattle.rocks_outside.specs.Shelf.{ShelfState}

-- the shelf holds what it held
pub record Stays (before now : ShelfState) : Type 0 where
  pub holds : now.holds ≡ before.holds
  pub servers : now.servers ≡ before.servers
  pub faults : before.faults ≤ now.faults

pub stays_same : (shelf : ShelfState) → Stays shelf shelf
stays_same shelf = record { holds = refl; servers = refl; faults = omega arith }
