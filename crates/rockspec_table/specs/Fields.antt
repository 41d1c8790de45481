-- Which globals are the fields of a rockspec, and the fault of others.
use Rattle.std.specs.Prelude.{◌≡◌, ◌≢◌, ℕ, List, Some, None, Err}
use Rattle.lua_value.specs.Pairs.{Pairs}
use Rattle.schema_table.specs.declared.row.Row.{Row}
use Rattle.schema_table.specs.declared.row.Format.{Format}
use Rattle.schema_table.specs.declared.fault.ShapeFault.{ShapeFault}
use Rattle.schema_table.specs.declared.fault.ShapeFault.TheVariants as shape
use Rattle.schema_table.specs.Checks.{Fits, Checks}
use Rattle.rockspec_table.specs.declared.fault.TableFault.{TableFault}
use Rattle.rockspec_table.specs.declared.fault.TableFault.TheVariants.{BadFormat, BadPlatforms, Shape, NoMemory}
use Rattle.rockspec_table.specs.Formats.{format_of}
use Rattle.rockspec_table.specs.Platforms.{merged_fields, IsFirstBadField, HasGoodPlatforms}
use Rattle.rockspec_table.specs.Rows.{AreRockspecRows}

-- the globals say a format and have good platforms, and with these merged they are this table
pub record AreMerged (globals : Pairs) (format : Format) (table : Pairs) : Type 0 where
  pub said : format_of globals ≡ Some format
  pub platforms : HasGoodPlatforms globals
  pub merged : table ≡ merged_fields globals

-- the table has this answer by the rows of rockspecs
pub record FitsRockspec (table : Pairs) (format : Format) : Type 0 where
  pub rows : List Row
  pub are : AreRockspecRows rows
  pub fits : Fits rows table format

pub record IsMisfit (table : Pairs) (format : Format) (fault : ShapeFault) : Type 0 where
  pub rows : List Row
  pub are : AreRockspecRows rows
  pub told : fault ≢ shape.NoMemory
  pub checks : Checks rows table format (Err fault)

-- the fields of these globals: their format, and the table that they are with the platforms merged, which fits
pub record HasFields (globals : Pairs) (format : Format) (table : Pairs) : Type 0 where
  pub merged : AreMerged globals format table
  pub fits : FitsRockspec table format

-- the globals have a format, and this field is the first with bad platforms
pub record AreBadlyMerged (globals : Pairs) (field : List ℕ) : Type 0 where
  pub format : Format
  pub said : format_of globals ≡ Some format
  pub first : IsFirstBadField globals field

-- they have a format and good platforms, and with these merged this misfit
pub record HasMisfit (globals : Pairs) (fault : ShapeFault) : Type 0 where
  pub format : Format
  pub table : Pairs
  pub merged : AreMerged globals format table
  pub misfit : IsMisfit table format fault

-- the one fault of globals that aren't the fields of a rockspec, or want of memory
abbrev pub IsTableFault : (globals : Pairs) → TableFault → Type 0
IsTableFault globals BadFormat = format_of globals ≡ None
IsTableFault globals (BadPlatforms field) = AreBadlyMerged globals field
IsTableFault globals (Shape fault) = HasMisfit globals fault
IsTableFault globals NoMemory = Unit {0}
