-- What values weigh, and how much all of a chunk's may weigh (this project's own).
use Rattle.std.specs.Prelude.{ℕ, ◌+◌, ◌||◌, nat_lt, length, if◌then◌else◌, Result, Ok, Err}
use Rattle.lua_value.specs.declared.key.Key.{Key}
use Rattle.lua_value.specs.declared.key.Key.TheVariants.{Int, Text, Bool as Truth}
use Rattle.lua_value.specs.Depth.{value_depth}
use Rattle.lua_value.specs.Pairs.{Datum, Pairs, nil, truth_value, int_value, text_value, table_value, no_pairs, with_pair}
use Rattle.lua_eval.specs.declared.fault.EvalFault.{EvalFault}
use Rattle.lua_eval.specs.declared.fault.EvalFault.TheVariants.{TooLarge}
use Rattle.lua_eval.specs.declared.weight.TheConstants.{HEAVIEST, DEEPEST}

-- a text weighs 16 and its length, any other key 16
abbrev pub key_weight : Key → ℕ
key_weight (Int n) = 16
key_weight (Text bytes) = 16 + length bytes
key_weight (Truth b) = 16

abbrev mutual
  -- the same of values; a table weighs 16 and its keys and values
  pub weight : Datum → ℕ
  weight nil = 16
  weight (truth_value b) = 16
  weight (int_value n) = 16
  weight (text_value bytes) = 16 + length bytes
  weight (table_value ps) = 16 + pairs_weight ps

  pub pairs_weight : Pairs → ℕ
  pairs_weight no_pairs = 0
  pairs_weight (with_pair key value rest) = key_weight key + weight value + pairs_weight rest

-- The value of the node at this place, and the sum of weights with its own. `TooLarge` where the sum is above
-- the limit, or a table stands too deep in the value.
abbrev pub weighed : ℕ → Datum → ℕ → Result (Datum × ℕ) EvalFault
weighed place value sum =
    if nat_lt HEAVIEST (sum + weight value) || nat_lt DEEPEST (value_depth value)
    then Err (TooLarge place)
    else Ok (value, sum + weight value)
