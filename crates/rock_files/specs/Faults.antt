-- What causes the faults of a build.
use Rattle.std.specs.Prelude.{◌≡◌, ◌≤◌, Result, IsErrOf}
use Rattle.rocks_outside.specs.Counts.{HasRisen}
use Rattle.rocks_outside.specs.Shelf.{ShelfState}
use Rattle.rocks_outside.specs.declared.fault.ShelfError as shelf
use Rattle.rocks_outside.specs.declared.fault.ShelfError.TheVariants as shelf_error
use Rattle.rock_files.specs.declared.fault.BuildFault.{BuildFault}
use Rattle.rock_files.specs.declared.fault.BuildFault.TheVariants.{ShelfFault, NoMemory}

abbrev pub fault_of_shelf : shelf.ShelfError → BuildFault
fault_of_shelf shelf_error.Failed = ShelfFault
fault_of_shelf shelf_error.NoMemory = NoMemory

-- a call that asks a shelf: it leaves what the servers hold, and answers the shelf's fault only where that one failed
pub record Asks {T : Type 0} (result : Result T BuildFault) (before now : ShelfState) : Type 0 where
  pub holds : now.holds ≡ before.holds
  pub servers : now.servers ≡ before.servers
  pub faults : before.faults ≤ now.faults
  pub cause : IsErrOf result ShelfFault → HasRisen before.faults now.faults
