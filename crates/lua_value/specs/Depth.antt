-- How deep tables stand within one another.
use Rattle.std.specs.Prelude.{ℕ, suc, max}
use Rattle.lua_value.specs.Pairs.{Datum, Pairs, nil, truth_value, int_value, text_value, table_value, no_pairs, with_pair}

abbrev mutual
  -- of a value that is no table 0, and of a table one more than its pairs have
  pub value_depth : Datum → ℕ
  value_depth nil = 0
  value_depth (truth_value b) = 0
  value_depth (int_value n) = 0
  value_depth (text_value bytes) = 0
  value_depth (table_value ps) = suc (depth ps)

  -- the largest of the values'
  pub depth : Pairs → ℕ
  depth no_pairs = 0
  depth (with_pair key value rest) = max (value_depth value) (depth rest)
