-- A table as the list of its keys and values, in key order. A value in it is plain data, and a table in it a list again.
use Rattle.std.specs.Prelude.{◌≡◌, ℕ, suc, ◌+◌, Bool, List, [], ◌∷◌, Option, Some, None, if◌then◌else◌}
use Rattle.std.specs.Ordering.{is_eq, match_ordering}
use Rattle.lua_value.specs.declared.key.Key.{Key}
use Rattle.lua_value.specs.declared.key.Key.TheVariants.{Int as number}
use Rattle.lua_value.specs.Key.{key_cmp}

mutual
  -- what a value is seen as
  pub data Datum : Type 0 where
    nil : Datum
    truth_value : Bool → Datum
    int_value : ℕ → Datum
    text_value : List ℕ → Datum
    table_value : Pairs → Datum

  -- what a table is seen as: keys, each with its value
  pub data Pairs : Type 0 where
    no_pairs : Pairs
    with_pair : Key → Datum → Pairs → Pairs

-- how many pairs there are
abbrev pub count : Pairs → ℕ
count no_pairs = 0
count (with_pair key value rest) = suc (count rest)

-- the pair at a place, counted from 0
abbrev pub listed : Pairs → List (Key × Datum)
listed no_pairs = []
listed (with_pair key value rest) = (key, value) ∷ listed rest

-- the keys of a list of pairs
abbrev pub keys : Pairs → List Key
keys no_pairs = []
keys (with_pair key value rest) = key ∷ keys rest

-- the value that stands at the key, if one does
abbrev pub value_at : Key → Pairs → Option Datum
value_at key no_pairs = None
value_at key (with_pair first value rest) = if is_eq (key_cmp key first) then Some value else value_at key rest

-- the list with this key and value at their place in the order: in place of the pair that had the key, or as a new pair
abbrev pub put : Key → Datum → Pairs → Pairs
put key value no_pairs = with_pair key value no_pairs
put key value (with_pair first old rest) =
    match_ordering (key_cmp key first) (with_pair key value (with_pair first old rest)) (with_pair key value rest) (with_pair first old (put key value rest))

-- the keys are n, n + 1 and so on
abbrev pub IsListFrom : ℕ → Pairs → Type 0
IsListFrom n no_pairs = Unit {0}
IsListFrom n (with_pair key value rest) = (key ≡ number n) × IsListFrom (n + 1) rest

-- the keys are 1 to the number of pairs
abbrev pub IsList : Pairs → Type 0
IsList ps = IsListFrom 1 ps
