-- What a check of a table by rows answers.
use Rattle.std.specs.Prelude.{ℕ, ◌<◌, List, Result, Ok, Err}
use Rattle.lua_value.specs.Pairs.{Pairs}
use Rattle.schema_table.specs.declared.row.Row.{Row}
use Rattle.schema_table.specs.declared.row.Format.{Format}
use Rattle.schema_table.specs.declared.fault.ShapeFault.{ShapeFault}
use Rattle.schema_table.specs.declared.fault.ShapeFault.TheVariants.{Unknown, TooNew, WrongShape, Missing, NoMemory}
use Rattle.schema_table.specs.Visits.{IsFaultless, IsFirstFault}
use Rattle.schema_table.specs.Absence.{IsMissing}

-- no visited path has a fault, and no row is missing
pub record Fits (rows : List Row) (table : Pairs) (format : Format) : Type 0 where
  pub faultless : IsFaultless rows table format
  pub complete : (number : ℕ) → ¬ IsMissing rows table format number

-- no visited path has a fault, and of the missing rows this is the first
pub record IsFirstMissing (rows : List Row) (table : Pairs) (format : Format) (number : ℕ) : Type 0 where
  pub faultless : IsFaultless rows table format
  pub missing : IsMissing rows table format number
  pub earlier : (other : ℕ) → other < number → ¬ IsMissing rows table format other

-- the one answer of a check, besides want of memory
abbrev pub Checks : List Row → Pairs → Format → Result (Unit {0}) ShapeFault → Type 0
Checks rows table format (Ok _) = Fits rows table format
Checks rows table format (Err (Unknown told)) = IsFirstFault rows table format (Unknown told)
Checks rows table format (Err (TooNew number)) = IsFirstFault rows table format (TooNew number)
Checks rows table format (Err (WrongShape number)) = IsFirstFault rows table format (WrongShape number)
Checks rows table format (Err (Missing number)) = IsFirstMissing rows table format number
Checks rows table format (Err NoMemory) = Unit {0}
