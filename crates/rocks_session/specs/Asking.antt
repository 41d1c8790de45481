-- What a command that asks a shelf alone leaves.
use Rattle.std.specs.Prelude.{Result, IfErr}
use Rattle.rocks_outside.specs.Shelf.{ShelfState}
use Rattle.served_rocks.specs.Asking.{IsKept}
use Rattle.rocks_session.specs.Faults.{IsShelfFault}
use Rattle.rocks_session.specs.declared.fault.SessionFault.{SessionFault}

-- the servers hold what they held, and the shelf's fault comes only where it failed
pub record AsksShelf {T : Type 0} (result : Result T SessionFault) (before now : ShelfState) : Type 0 where
  pub kept : IsKept before now
  pub cause : IfErr result (IsShelfFault before.faults now.faults)
