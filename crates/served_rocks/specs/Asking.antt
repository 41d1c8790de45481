-- What a call leaves that asks a shelf, and when it may fail.
use Rattle.std.specs.Prelude.{◌≡◌, ◌≤◌, Result, IsErrOf}
use Rattle.rocks_outside.specs.Counts.{HasRisen}
use Rattle.rocks_outside.specs.Shelf.{ShelfState}
use Rattle.rocks_outside.specs.declared.fault.ShelfError.{ShelfError}
use Rattle.rocks_outside.specs.declared.fault.ShelfError.TheVariants.{Failed}
use Rattle.served_rocks.specs.declared.fault.Unserved.{Unserved}
use Rattle.served_rocks.specs.declared.fault.Unserved.TheVariants as unserved

-- the servers hold what they held
pub record IsKept (before now : ShelfState) : Type 0 where
  pub holds : now.holds ≡ before.holds
  pub servers : now.servers ≡ before.servers
  pub faults : before.faults ≤ now.faults

-- the shelf's fault comes only where it failed
pub record Asks {T : Type 0} (result : Result T ShelfError) (before now : ShelfState) : Type 0 where
  pub kept : IsKept before now
  pub cause : IsErrOf result Failed → HasRisen before.faults now.faults

pub record AsksFor {T : Type 0} (result : Result T Unserved) (before now : ShelfState) : Type 0 where
  pub kept : IsKept before now
  pub cause : IsErrOf result (unserved.Failed Failed) → HasRisen before.faults now.faults
