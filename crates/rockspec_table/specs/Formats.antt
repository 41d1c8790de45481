-- The formats of rockspecs (LuaRocks documentation, rockspec format).
use Rattle.std.specs.Prelude.{ℕ, List, Option, Some, None, codes, if◌then◌else◌}
use Rattle.std.specs.Str.{bytes_eq}
use Rattle.lua_value.specs.declared.key.Key.TheVariants.{Text}
use Rattle.lua_value.specs.Pairs.{Datum, Pairs, nil, truth_value, int_value, text_value, table_value, value_at}
use Rattle.schema_table.specs.declared.row.Format.{Format}
use Rattle.schema_table.specs.declared.row.Format.TheVariants.{One, OneOne, Three}

-- the format of this name
abbrev pub format_named : List ℕ → Option Format
format_named name =
    if bytes_eq name (codes "1.0") then Some One
    else (if bytes_eq name (codes "1.1") then Some OneOne
    else (if bytes_eq name (codes "3.0") then Some Three else None))

-- the format that a value of `rockspec_format` says: an absent one says 1.0
abbrev pub format_said : Option Datum → Option Format
format_said None = Some One
format_said (Some nil) = None
format_said (Some (truth_value b)) = None
format_said (Some (int_value n)) = None
format_said (Some (text_value name)) = format_named name
format_said (Some (table_value ps)) = None

-- the format of a rockspec with these globals, if they say one
abbrev pub format_of : (globals : Pairs) → Option Format
format_of globals = format_said (value_at (Text (codes "rockspec_format")) globals)
