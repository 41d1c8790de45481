-- What values and tables are seen as.
use Rattle.std.specs.Prelude.{List, [], ◌∷◌}
use Rattle.lua_value.specs.declared.key.Key.{Key}
use Rattle.lua_value.specs.declared.table.Value.{Value}
use Rattle.lua_value.specs.declared.table.Value.TheVariants.{Nil, Bool, Int, Text, Table}
use Rattle.lua_value.specs.Pairs.{Datum, Pairs, nil, truth_value, int_value, text_value, table_value, no_pairs, with_pair}

-- what a value is seen as
abbrev pub datum : Value → Datum
datum Nil = nil
datum (Bool b) = truth_value b
datum (Int n) = int_value n
datum (Text bytes) = text_value bytes
datum (Table ps) = table_value ps

-- what a list of entries is seen as
abbrev pub pairs_of : List (Key × Value) → Pairs
pairs_of [] = no_pairs
pairs_of (entry ∷ rest) = with_pair entry.0 (datum entry.1) (pairs_of rest)
