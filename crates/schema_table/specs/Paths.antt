-- Paths into a table: lists of keys, from the outermost one on.
use Rattle.std.specs.Prelude.{ℕ, true, false, List, [], ◌∷◌, Option, Some, None, option_and_then, map, codes}
use Rattle.std.specs.Borrow.{Bor}
use Rattle.std.specs.Fmt.{decimal}
use Rattle.std.specs.List.{join_with_byte}
use Rattle.lua_value.specs.declared.key.Key.{Key}
use Rattle.lua_value.specs.declared.key.Key.TheVariants.{Int, Text, Bool as Truth}
use Rattle.lua_value.specs.Pairs.{Datum, nil, truth_value, int_value, text_value, table_value, value_at}

-- what references point to
abbrev pub referents : {T : Type 0} → List (Bor T) → List T
referents references = map (λ reference. reference.now) references

-- what a value has at a key
abbrev pub value_within : Key → Datum → Option Datum
value_within key nil = None
value_within key (truth_value b) = None
value_within key (int_value n) = None
value_within key (text_value bytes) = None
value_within key (table_value ps) = value_at key ps

-- what stands at a path into a value; at the empty path the value itself stands
abbrev pub at_path : Datum → List Key → Option Datum
at_path value [] = Some value
at_path value (key ∷ rest) = option_and_then (λ within. at_path within rest) (value_within key value)

-- a key as a part of the text of a path
abbrev pub key_text : Key → List ℕ
key_text (Int n) = decimal n
key_text (Text bytes) = bytes
key_text (Truth true) = codes "true"
key_text (Truth false) = codes "false"

-- the text of a path: its keys with a dot between each two
abbrev pub path_text : List Key → List ℕ
path_text path = join_with_byte 46 (map key_text path)
