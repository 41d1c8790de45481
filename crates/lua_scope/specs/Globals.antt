-- The globals of a chunk as the pairs of a table (Lua 5.4 manual, section 2.2, as far as served): one that is nil is absent.
use Rattle.std.specs.Prelude.{ℕ, List, if◌then◌else◌}
use Rattle.std.specs.Ordering.{is_eq}
use Rattle.lua_value.specs.declared.key.Key.{Key}
use Rattle.lua_value.specs.declared.key.Key.TheVariants.{Text}
use Rattle.lua_value.specs.Key.{key_cmp}
use Rattle.lua_value.specs.Pairs.{Datum, Pairs, nil, no_pairs, with_pair, put}

-- the pairs but the one with this key
abbrev pub without : Key → Pairs → Pairs
without key no_pairs = no_pairs
without key (with_pair first value rest) =
    if is_eq (key_cmp key first) then rest else with_pair first value (without key rest)

-- the globals after one of them was set; nil takes it away
abbrev pub with_global : List ℕ → Datum → Pairs → Pairs
with_global name nil ps = without (Text name) ps
with_global name value ps = put (Text name) value ps
