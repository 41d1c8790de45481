-- No definition answers want of memory.
use Rattle.std.proofs.Common.{◌≢◌, ◌+◌, ◌||◌, ℕ, Bool, true, false, cond, List, [], ◌∷◌, Option, Some, None, Result, Ok, Err, ltb}
use Rattle.std.specs.List.{list_any}
use Rattle.std.specs.Ordering.{is_eq}
use Rattle.lua_syntax.specs.declared.tree.LuaChunk.{LuaChunk}
use Rattle.lua_syntax.specs.declared.tree.Named.{Named}
use Rattle.lua_syntax.specs.declared.tree.Statement.{Statement}
use Rattle.lua_syntax.specs.declared.tree.Statement.TheVariants as statements
use Rattle.lua_syntax.specs.Trees.{Tree, Suffixes, Trees, Fields, nil as nil_node, truth, int, text, name, index, concat, table, no_suffixes, with_suffix, no_trees, with_tree, no_fields, with_position, with_key, trees}
use Rattle.lua_value.specs.declared.key.Key.{Key}
use Rattle.lua_value.specs.declared.key.Key.TheVariants.{Int}
use Rattle.lua_value.specs.Key.{key_cmp}
use Rattle.lua_value.specs.Depth.{value_depth}
use Rattle.lua_value.specs.Pairs.{Datum, Pairs, nil, truth_value, int_value, text_value, table_value, no_pairs}
use Rattle.lua_eval.specs.declared.fault.EvalFault.{EvalFault}
use Rattle.lua_eval.specs.declared.fault.EvalFault.TheVariants.{TooLarge, TwiceKey, NoMemory}
use Rattle.lua_eval.specs.declared.weight.TheConstants.{HEAVIEST, DEEPEST}
use Rattle.lua_eval.specs.Joins.{and_then, join, join_two, join_texts, text_of}
use Rattle.lua_eval.specs.Names.{given, twice}
use Rattle.lua_eval.specs.Values.{find, walk, find_all, fill, indexed, key_of, unused, with_value, State, values_in, assign, run_statement, run, start, value_of}
use Rattle.lua_eval.specs.Weights.{weight, weighed}

-- it is not want of memory
abbrev IsDefinite : {A : Type 0} → Result A EvalFault → Type 0
IsDefinite result = result ≢ Err NoMemory

definite-then : {A B : Type 0} (r : Result A EvalFault) (next : A → Result B EvalFault) → IsDefinite r → ((a : A) → IsDefinite (next a)) → IsDefinite (and_then r next)
definite-then (Ok a) next is all = all a
definite-then (Err fault) next is all = λ e. is (cc)

definite-weighed : (place : ℕ) (value : Datum) (sum : ℕ) → IsDefinite (weighed place value sum)
definite-weighed place value sum = by_test (ltb HEAVIEST (sum + weight value) || ltb DEEPEST (value_depth value))
  where
    by_test : (b : Bool) → IsDefinite {A = Datum × ℕ} (cond b (Err (TooLarge place)) (Ok (value, sum + weight value)))
    by_test true = λ e. cc
    by_test false = λ e. cc

definite-joined : (place : ℕ) (left right : Datum) (l r : Option (List ℕ)) → IsDefinite (join_texts place left right l r)
definite-joined place left right None r = λ e. cc
definite-joined place left right (Some l) None = λ e. cc
definite-joined place left right (Some l) (Some r) = λ e. cc

definite-join : (values : List Datum) (places : List ℕ) → IsDefinite (join values places)
definite-join [] places = λ e. cc
definite-join (value ∷ []) places = λ e. cc
definite-join (value ∷ other ∷ values) [] = λ e. cc
definite-join (value ∷ other ∷ values) (place ∷ places) =
    definite-then (join (other ∷ values) places) (join_two place value) (definite-join (other ∷ values) places)
    (λ right. definite-joined place value right (text_of value) (text_of right))

definite-indexed : (place : ℕ) (value key : Datum) → IsDefinite (indexed place value key)
definite-indexed place nil key = λ e. cc
definite-indexed place (truth_value b) key = λ e. cc
definite-indexed place (int_value n) key = λ e. cc
definite-indexed place (text_value bytes) key = λ e. cc
definite-indexed place (table_value ps) key = λ e. cc

definite-key : (place : ℕ) (value : Datum) → IsDefinite (key_of place value)
definite-key place nil = λ e. cc
definite-key place (truth_value b) = λ e. cc
definite-key place (int_value n) = λ e. cc
definite-key place (text_value bytes) = λ e. cc
definite-key place (table_value ps) = λ e. cc

definite-unused : (place : ℕ) (before : List Key) (key : Key) → IsDefinite (unused place before key)
definite-unused place before key = by_test (list_any (λ other. is_eq (key_cmp key other)) before)
  where
    by_test : (b : Bool) → IsDefinite (cond b (Err (TwiceKey place)) (Ok key))
    by_test true = λ e. cc
    by_test false = λ e. cc

mutual
  definite-find : (names : List ℕ → Datum) (tree : Tree) (sum : ℕ) → IsDefinite (find names tree sum)
  definite-find names (nil_node place) sum = definite-weighed place nil sum
  definite-find names (truth place b) sum = definite-weighed place (truth_value b) sum
  definite-find names (int place n) sum = definite-weighed place (int_value n) sum
  definite-find names (text place bytes) sum = definite-weighed place (text_value bytes) sum
  definite-find names (name place bytes) sum = definite-weighed place (names bytes) sum
  definite-find names (index place base suffixes) sum =
      definite-then (find names base sum) _ (definite-find names base sum) (λ found. definite-then (walk names suffixes found.0 found.1) _
      (definite-walk names suffixes found.0 found.1) (λ end. definite-weighed place end.0 end.1))
  definite-find names (concat place operands operators) sum =
      definite-then (find_all names operands sum) _ (definite-all names operands sum) (λ found. definite-then (join found.0 operators) _
      (definite-join found.0 operators) (λ whole. definite-weighed place whole found.1))
  definite-find names (table place fields) sum =
      definite-then (fill names fields 1 [] no_pairs sum) _ (definite-fill names fields 1 [] no_pairs sum) (λ made. definite-weighed place (table_value made.0) made.1)

  definite-walk : (names : List ℕ → Datum) (suffixes : Suffixes) (value : Datum) (sum : ℕ) → IsDefinite (walk names suffixes value sum)
  definite-walk names no_suffixes value sum = λ e. cc
  definite-walk names (with_suffix place key rest) value sum =
      definite-then (find names key sum) _ (definite-find names key sum) (λ found. definite-then (indexed place value found.0) _
      (definite-indexed place value found.0) (λ inner. definite-walk names rest inner found.1))

  definite-all : (names : List ℕ → Datum) (all : Trees) (sum : ℕ) → IsDefinite (find_all names all sum)
  definite-all names no_trees sum = λ e. cc
  definite-all names (with_tree first rest) sum =
      definite-then (find names first sum) _ (definite-find names first sum) (λ found. definite-then (find_all names rest found.1) _
      (definite-all names rest found.1) (λ others. λ e. cc))

  definite-fill : (names : List ℕ → Datum) (fields : Fields) (next : ℕ) (before : List Key) (made : Pairs) (sum : ℕ) → IsDefinite (fill names fields next before made sum)
  definite-fill names no_fields next before made sum = λ e. cc
  definite-fill names (with_position place value rest) next before made sum =
      definite-then (unused place before (Int next)) _ (definite-unused place before (Int next)) (λ key. definite-then (find names value sum) _
      (definite-find names value sum) (λ found. definite-fill names rest (next + 1) (key ∷ before) (with_value key found.0 made) found.1))
  definite-fill names (with_key place key value rest) next before made sum =
      definite-then (find names key sum) _ (definite-find names key sum) (λ found_key. definite-then (key_of place found_key.0) _
      (definite-key place found_key.0) (λ known. definite-then (unused place before known) _ (definite-unused place before known)
      (λ free. definite-then (find names value found_key.1) _ (definite-find names value found_key.1)
      (λ found. definite-fill names rest next (free ∷ before) (with_value free found.0 made) found.1))))

definite-assign : (found : Option ℕ) (names : List Named) (values : Trees) (state : State) → IsDefinite (assign found names values state)
definite-assign (Some place) names values state = λ e. cc
definite-assign None names values state =
    definite-then (values_in state values) _ (definite-all (given state.locals state.globals) values state.sum) (λ found. λ e. cc)

definite-statement : (statement : Statement) (state : State) → IsDefinite (run_statement statement state)
definite-statement (statements.Assign names values) state = definite-assign (twice [] names) names (trees values) state
definite-statement (statements.Local names values) state =
    definite-then (values_in state (trees values)) _ (definite-all (given state.locals state.globals) (trees values) state.sum) (λ found. λ e. cc)

definite-run : (all : List Statement) (state : State) → IsDefinite (run all state)
definite-run [] state = λ e. cc
definite-run (statement ∷ rest) state =
    definite-then (run_statement statement state) (run rest) (definite-statement statement state) (definite-run rest)

-- what a chunk comes to is no want of memory
pub definite-chunk : (chunk : LuaChunk) → value_of chunk ≢ Err NoMemory
definite-chunk chunk = definite-then (run chunk.statements start) _ (definite-run chunk.statements start) (λ state. λ e. cc)
