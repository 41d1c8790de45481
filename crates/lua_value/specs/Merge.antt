-- One table merged over another (this project's own).
use Rattle.std.specs.Prelude.{Option, Some, None}
use Rattle.lua_value.specs.Pairs.{Datum, Pairs, table_value, no_pairs, with_pair, value_at, put}

abbrev mutual
  -- what stands at a key after a merge, from the lower table's value there, if there is one, and the upper table's: two tables are merged, and else the upper value stands
  pub merged_value : Option Datum → Datum → Datum
  merged_value (Some (table_value lower)) (table_value upper) = table_value (merged_pairs lower upper)
  merged_value lower upper = upper

  -- the lower pairs, with each upper key put in at what stands there after the merge
  pub merged_pairs : Pairs → Pairs → Pairs
  merged_pairs lower no_pairs = lower
  merged_pairs lower (with_pair key value rest) =
      put key (merged_value (value_at key lower) value) (merged_pairs lower rest)

-- the value that a key has after a merge, from the values that it has in the lower and in the upper table
abbrev pub merged_at : Option Datum → Option Datum → Option Datum
merged_at lower None = lower
merged_at lower (Some upper) = Some (merged_value lower upper)
