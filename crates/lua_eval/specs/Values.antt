-- What expressions, statements and chunks come to (Lua 5.4 manual, sections 3.3.3, 3.3.7 and 3.4, as far as served).
-- A case of `find` is a kind of node.
use Rattle.std.specs.Prelude.{ℕ, ◌+◌, List, [], ◌∷◌, ◌++◌, Option, Some, None, is_some, if◌then◌else◌, Result, Ok, Err}
use Rattle.std.specs.List.{list_any}
use Rattle.std.specs.Ordering.{is_eq}
use Rattle.lua_syntax.specs.declared.tree.LuaChunk.{LuaChunk}
use Rattle.lua_syntax.specs.declared.tree.Named.{Named}
use Rattle.lua_syntax.specs.declared.tree.Statement.{Statement}
use Rattle.lua_syntax.specs.declared.tree.Statement.TheVariants as statements
use Rattle.lua_syntax.specs.Trees.{Tree, Suffixes, Trees, Fields, nil as nil_node, truth, int, text, name, index, concat, table, no_suffixes, with_suffix, no_trees, with_tree, no_fields, with_position, with_key, trees}
use Rattle.lua_value.specs.declared.key.Key.{Key}
use Rattle.lua_value.specs.declared.key.Key.TheVariants.{Int, Text, Bool as Truth}
use Rattle.lua_value.specs.Key.{key_cmp}
use Rattle.lua_value.specs.Pairs.{Datum, Pairs, nil, truth_value, int_value, text_value, table_value, no_pairs, value_at, put}
use Rattle.lua_scope.specs.Locals.{latest, reset}
use Rattle.lua_scope.specs.Globals.{with_global}
use Rattle.lua_eval.specs.declared.fault.EvalFault.{EvalFault}
use Rattle.lua_eval.specs.declared.fault.EvalFault.TheVariants.{IndexOf, NilKey, TableKey, TwiceKey, TwiceName}
use Rattle.lua_eval.specs.Joins.{kind_of, and_then, join}
use Rattle.lua_eval.specs.Names.{or_nil, given, paired, twice}
use Rattle.lua_eval.specs.Weights.{weighed}

-- ---- keys and entries

-- the value at a key of a table, or nil where it is absent or the key is nil or a table
abbrev pub entry : Pairs → Datum → Datum
entry ps nil = nil
entry ps (truth_value b) = or_nil (value_at (Truth b) ps)
entry ps (int_value n) = or_nil (value_at (Int n) ps)
entry ps (text_value bytes) = or_nil (value_at (Text bytes) ps)
entry ps (table_value key) = nil

-- what a value has at a key, for the suffix at this place; only a table has entries
abbrev pub indexed : ℕ → Datum → Datum → Result Datum EvalFault
indexed place (table_value ps) key = Ok (entry ps key)
indexed place value key = Err (IndexOf place (kind_of value))

-- the key that a value is, for the field at this place
abbrev pub key_of : ℕ → Datum → Result Key EvalFault
key_of place nil = Err (NilKey place)
key_of place (truth_value b) = Ok (Truth b)
key_of place (int_value n) = Ok (Int n)
key_of place (text_value bytes) = Ok (Text bytes)
key_of place (table_value ps) = Err (TableKey place)

-- the key, unless a field before gave it
abbrev pub unused : ℕ → List Key → Key → Result Key EvalFault
unused place before key = if list_any (λ other. is_eq (key_cmp key other)) before then Err (TwiceKey place) else Ok key

-- the pairs with this one; a nil leaves none
abbrev pub with_value : Key → Datum → Pairs → Pairs
with_value key nil made = made
with_value key value made = put key value made

-- ---- expressions

-- What a value is found from: what names give, and the sum of weights so far. With it the sum is answered.
abbrev mutual
  pub find : (List ℕ → Datum) → Tree → ℕ → Result (Datum × ℕ) EvalFault
  find names (nil_node place) sum = weighed place nil sum
  find names (truth place b) sum = weighed place (truth_value b) sum
  find names (int place n) sum = weighed place (int_value n) sum
  find names (text place bytes) sum = weighed place (text_value bytes) sum
  find names (name place bytes) sum = weighed place (names bytes) sum
  find names (index place base suffixes) sum =
      and_then (find names base sum) (λ found. and_then (walk names suffixes found.0 found.1)
      (λ end. weighed place end.0 end.1))
  find names (concat place operands operators) sum =
      and_then (find_all names operands sum) (λ found. and_then (join found.0 operators)
      (λ whole. weighed place whole found.1))
  find names (table place fields) sum =
      and_then (fill names fields 1 [] no_pairs sum) (λ made. weighed place (table_value made.0) made.1)

  -- along the suffixes, each key before the value is indexed
  pub walk : (List ℕ → Datum) → Suffixes → Datum → ℕ → Result (Datum × ℕ) EvalFault
  walk names no_suffixes value sum = Ok (value, sum)
  walk names (with_suffix place key rest) value sum =
      and_then (find names key sum) (λ found. and_then (indexed place value found.0)
      (λ inner. walk names rest inner found.1))

  -- the values from left to right
  pub find_all : (List ℕ → Datum) → Trees → ℕ → Result (List Datum × ℕ) EvalFault
  find_all names no_trees sum = Ok ([], sum)
  find_all names (with_tree first rest) sum =
      and_then (find names first sum) (λ found. and_then (find_all names rest found.1)
      (λ others. Ok (found.0 ∷ others.0, others.1)))

  -- The pairs of the fields in order, each key before its value: the next positional field has this key, the fields
  -- before gave these keys, and made these pairs.
  pub fill : (List ℕ → Datum) → Fields → ℕ → List Key → Pairs → ℕ → Result (Pairs × ℕ) EvalFault
  fill names no_fields next before made sum = Ok (made, sum)
  fill names (with_position place value rest) next before made sum =
      and_then (unused place before (Int next)) (λ key. and_then (find names value sum)
      (λ found. fill names rest (next + 1) (key ∷ before) (with_value key found.0 made) found.1))
  fill names (with_key place key value rest) next before made sum =
      and_then (find names key sum) (λ found_key. and_then (key_of place found_key.0)
      (λ key_value. and_then (unused place before key_value) (λ unused_key. and_then (find names value found_key.1)
      (λ found. fill names rest next (unused_key ∷ before) (with_value unused_key found.0 made) found.1))))

-- ---- statements

-- the locals, the latest last, the globals, and the sum of weights
pub record State : Type 0 where
  pub locals : List (List ℕ × Datum)
  pub globals : Pairs
  pub sum : ℕ

-- the latest local of the name has another value, or else the global
abbrev pub assigned : List ℕ → Datum → State → State
assigned called value state =
    if is_some (latest called state.locals)
    then record { locals = reset called value state.locals; globals = state.globals; sum = state.sum }
    else record { locals = state.locals; globals = with_global called value state.globals; sum = state.sum }

-- so it is of each name in turn
abbrev pub assign_all : List (List ℕ × Datum) → State → State
assign_all [] state = state
assign_all (pair ∷ pairs) state = assign_all pairs (assigned pair.0 pair.1 state)

-- the state in which the values were found
abbrev pub summed : State → ℕ → State
summed state sum = record { locals = state.locals; globals = state.globals; sum = sum }

abbrev pub with_locals : State → List (List ℕ × Datum) → State
with_locals state pairs = record { locals = state.locals ++ pairs; globals = state.globals; sum = state.sum }

-- the values that the state gives
abbrev pub values_in : State → Trees → Result (List Datum × ℕ) EvalFault
values_in state values = find_all (given state.locals state.globals) values state.sum

-- all values come first; no name is assigned twice at once
abbrev pub assign : Option ℕ → List Named → Trees → State → Result State EvalFault
assign (Some place) names values state = Err (TwiceName place)
assign None names values state =
    and_then (values_in state values) (λ found. Ok (assign_all (paired names found.0) (summed state found.1)))

-- the names are locals from now on, each with its value
abbrev pub declare : List Named → Trees → State → Result State EvalFault
declare names values state =
    and_then (values_in state values) (λ found. Ok (with_locals (summed state found.1) (paired names found.0)))

abbrev pub run_statement : Statement → State → Result State EvalFault
run_statement (statements.Assign names values) state = assign (twice [] names) names (trees values) state
run_statement (statements.Local names values) state = declare names (trees values) state

-- one statement after another
abbrev pub run : List Statement → State → Result State EvalFault
run [] state = Ok state
run (statement ∷ rest) state = and_then (run_statement statement state) (run rest)

-- no local, no global, nothing weighed
abbrev pub start : State
start = record { locals = []; globals = no_pairs; sum = 0 }

-- the globals after all statements, or the first fault
abbrev pub value_of : LuaChunk → Result Pairs EvalFault
value_of chunk = and_then (run chunk.statements start) (λ state. Ok state.globals)
