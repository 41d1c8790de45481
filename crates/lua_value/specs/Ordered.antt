-- What holds of each table, at every depth (this project's own).
use Rattle.std.specs.Prelude.{◌≡◌, ◌≢◌, List, [], ◌∷◌}
use Rattle.std.specs.declared.cmp.Ordering.TheVariants.{Less}
use Rattle.lua_value.specs.declared.key.Key.{Key}
use Rattle.lua_value.specs.Key.{key_cmp, IsInteger, IsKey}
use Rattle.lua_value.specs.Pairs.{Datum, Pairs, nil, truth_value, int_value, text_value, table_value, no_pairs, with_pair, keys}

-- the key comes before each of the others
abbrev pub IsBeforeAll : Key → List Key → Type 0
IsBeforeAll key [] = Unit {0}
IsBeforeAll key (other ∷ rest) = (key_cmp key other ≡ Less) × IsBeforeAll key rest

abbrev mutual
  -- integers are in their range, and a table is ordered
  pub IsServed : Datum → Type 0
  IsServed nil = Unit {0}
  IsServed (truth_value b) = Unit {0}
  IsServed (int_value n) = IsInteger n
  IsServed (text_value bytes) = Unit {0}
  IsServed (table_value ps) = IsOrdered ps

  -- each key comes before all later ones, no value is nil, integers are in their range, and so it is in each table within
  pub IsOrdered : Pairs → Type 0
  IsOrdered no_pairs = Unit {0}
  IsOrdered (with_pair key value rest) =
      IsBeforeAll key (keys rest) × IsKey key × (value ≢ nil) × IsServed value × IsOrdered rest
