-- The faults of each step by which globals are read.
use Rattle.std.specs.Prelude.{◌≡◌, None}
use Rattle.lua_value.specs.Pairs.{Pairs}
use Rattle.rockspec_table.specs.declared.fault.TableFault.{TableFault}
use Rattle.rockspec_table.specs.declared.fault.TableFault.TheVariants.{BadFormat, BadPlatforms, Shape, NoMemory}
use Rattle.rockspec_table.specs.Formats.{format_of}
use Rattle.rockspec_table.specs.Platforms.{IsFirstBadField}

-- the globals say no format, or memory ran out
abbrev pub IsFormatFault : (globals : Pairs) → TableFault → Type 0
IsFormatFault globals BadFormat = format_of globals ≡ None
IsFormatFault globals (BadPlatforms field) = ⊥
IsFormatFault globals (Shape fault) = ⊥
IsFormatFault globals NoMemory = Unit {0}

-- the field is the first with bad platforms, or memory ran out
abbrev pub IsPlatformsFault : (globals : Pairs) → TableFault → Type 0
IsPlatformsFault globals BadFormat = ⊥
IsPlatformsFault globals (BadPlatforms field) = IsFirstBadField globals field
IsPlatformsFault globals (Shape fault) = ⊥
IsPlatformsFault globals NoMemory = Unit {0}
