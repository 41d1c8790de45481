-- What locals and globals are seen as.
use Rattle.std.specs.Prelude.{ℕ, List, [], ◌∷◌, map}
use Rattle.std.specs.Ordering.{nat_cmp}
use Rattle.std.specs.Cmp.Lexicographic.{slice_cmp}
use Rattle.std.specs.BTreeMap.{BTreeMap, IsOrdered as HasOrderedKeys}
use Rattle.lua_value.specs.declared.key.Key.{Key}
use Rattle.lua_value.specs.declared.key.Key.TheVariants.{Text}
use Rattle.lua_value.specs.declared.table.Value.{Value}
use Rattle.lua_value.specs.Ordered.{IsOrdered}
use Rattle.lua_value.specs.Pairs.{Datum, Pairs, nil, no_pairs, with_pair}
use Rattle.lua_value.specs.View.{datum}

-- what a list of locals is seen as
abbrev pub locals_of : List (List ℕ × Value) → List (List ℕ × Datum)
locals_of list = map {B = List ℕ × Datum} (λ (local : List ℕ × Value). (local.0, datum local.1)) list

-- the pairs behind this one, unless its value is nil
abbrev pub unless_nil : Key → Datum → Pairs → Pairs
unless_nil key nil rest = rest
unless_nil key value rest = with_pair key value rest

-- what a list of globals is seen as
abbrev pub globals_of : List (List ℕ × Value) → Pairs
globals_of [] = no_pairs
globals_of (global ∷ rest) = unless_nil (Text global.0) (datum global.1) (globals_of rest)

-- the names ascend, and the globals that are not nil are a table
pub record IsGlobals (map : BTreeMap (List ℕ) Value) : Type 0 where
  pub names : HasOrderedKeys (slice_cmp nat_cmp) map
  pub table : IsOrdered (globals_of map.entries)
