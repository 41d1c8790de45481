-- What is found: its weight is in the sum, the sum is not above the limit, and no table stands too deep.
use Rattle.std.proofs.Common.{◌≡◌, ℕ, ◌+◌, ◌<◌, ◌≤◌, Bool, true, false, cond, ◌||◌, ltb, List, [], ◌∷◌, Result, Ok, Err, refl, subst, arith, ltb-false}
use Rattle.std.specs.List.{AllByRecursion}
use Rattle.lua_syntax.specs.Trees.{Tree, Suffixes, Trees, Fields, nil as nil_node, truth, int, text, name, index, concat, table, no_suffixes, with_suffix, no_trees, with_tree, no_fields, with_position, with_key}
use Rattle.lua_value.specs.declared.key.Key.{Key}
use Rattle.lua_value.specs.declared.key.Key.TheVariants.{Int}
use Rattle.lua_value.specs.Depth.{value_depth}
use Rattle.lua_value.specs.Pairs.{Datum, Pairs, nil, truth_value, int_value, text_value, table_value, no_pairs}
use Rattle.lua_eval.specs.declared.fault.EvalFault.{EvalFault}
use Rattle.lua_eval.specs.declared.fault.EvalFault.TheVariants.{TooLarge}
use Rattle.lua_eval.specs.declared.weight.TheConstants.{HEAVIEST, DEEPEST}
use Rattle.lua_eval.specs.Joins.{and_then, join}
use Rattle.lua_eval.specs.Values.{find, walk, find_all, fill, indexed, key_of, unused, with_value}
use Rattle.lua_eval.specs.Weights.{weight, weighed}

-- what comes of two steps comes of the second, at what came of the first
pub and_then-ok : {A B : Type 0} (r : Result A EvalFault) (next : A → Result B EvalFault) (x : B) → and_then r next ≡ Ok x → (a : A) × (r ≡ Ok a) × (next a ≡ Ok x)
and_then-ok (Ok a) next x e = (a, refl, e)
and_then-ok (Err fault) next x e = absurd (cc)

-- the value with the sum that was there before
abbrev IsWithin : ℕ → Datum × ℕ → Type 0
IsWithin sum found = (sum + weight found.0 ≤ found.1) × (found.1 ≤ HEAVIEST) × (value_depth found.0 ≤ DEEPEST)

-- ---- one value

-- what is weighed is within, and is the value itself
pub weighed-ok : (place : ℕ) (value : Datum) (sum : ℕ) (found : Datum × ℕ) → weighed place value sum ≡ Ok found → (value ≡ found.0) × IsWithin sum found
weighed-ok place value sum found e = by_tests (ltb HEAVIEST (sum + weight value)) (ltb DEEPEST (value_depth value)) refl refl e
  where
    by_tests : (heavy deep : Bool) → ltb HEAVIEST (sum + weight value) ≡ heavy → ltb DEEPEST (value_depth value) ≡ deep → cond (heavy || deep) (Err (TooLarge place)) (Ok (value, sum + weight value)) ≡ Ok found → (value ≡ found.0) × IsWithin sum found
    by_tests true deep h d e = absurd (cc)
    by_tests false true h d e = absurd (cc)
    by_tests false false h d e =
        let same : (value, sum + weight value) ≡ found = cc in
        let light = ltb-false _ _ h in
        let shallow = ltb-false _ _ d in
        subst (λ (one : Datum × ℕ). (value ≡ one.0) × IsWithin sum one) same (refl, (omega arith, light, shallow))

weighed-within : (place : ℕ) (value : Datum) (sum : ℕ) (found : Datum × ℕ) → weighed place value sum ≡ Ok found → IsWithin sum found
weighed-within place value sum found e = (weighed-ok place value sum found e).1

-- every value weighs something
pub weight-some : (value : Datum) → 0 < weight value
weight-some nil = omega arith
weight-some (truth_value b) = omega arith
weight-some (int_value n) = omega arith
weight-some (text_value bytes) = omega arith
weight-some (table_value ps) = omega arith

-- ---- values that were found

-- what values weigh together
abbrev pub total_weight : List Datum → ℕ
total_weight [] = 0
total_weight (value ∷ values) = weight value + total_weight values

-- none of them is too deep, and with what was there before they are within the sum
abbrev AreWithin : ℕ → List Datum × ℕ → Type 0
AreWithin sum found = (sum + total_weight found.0 ≤ found.1) × (sum ≤ HEAVIEST → found.1 ≤ HEAVIEST) × AllByRecursion (λ value. value_depth value ≤ DEEPEST) found.0

mutual
  pub find-within : (names : List ℕ → Datum) (t : Tree) (sum : ℕ) (found : Datum × ℕ) → find names t sum ≡ Ok found → IsWithin sum found
  find-within names (nil_node place) sum found e = weighed-within place nil sum found e
  find-within names (truth place b) sum found e = weighed-within place (truth_value b) sum found e
  find-within names (int place n) sum found e = weighed-within place (int_value n) sum found e
  find-within names (text place bytes) sum found e = weighed-within place (text_value bytes) sum found e
  find-within names (name place bytes) sum found e = weighed-within place (names bytes) sum found e
  find-within names (index place base suffixes) sum found e =
      let first = and_then-ok (find names base sum) _ found e in
      let second = and_then-ok (walk names suffixes first.0.0 first.0.1) _ found first.2 in
      let last = weighed-within place second.0.0 second.0.1 found second.2 in
      let of_base = find-within names base sum first.0 first.1 in
      let of_rest = walk-grows names suffixes first.0.0 first.0.1 second.0 second.1 in
      (omega arith, last.1, last.2)
  find-within names (concat place operands operators) sum found e =
      let first = and_then-ok (find_all names operands sum) _ found e in
      let second = and_then-ok (join first.0.0 operators) _ found first.2 in
      let last = weighed-within place second.0 first.0.1 found second.2 in
      let of_all = find_all-within names operands sum first.0 first.1 in
      (omega arith, last.1, last.2)
  find-within names (table place fields) sum found e =
      let first = and_then-ok (fill names fields 1 [] no_pairs sum) _ found e in
      let last = weighed-within place (table_value first.0.0) first.0.1 found first.2 in
      let of_fields = fill-grows names fields 1 [] no_pairs sum first.0 first.1 in
      (omega arith, last.1, last.2)

  walk-grows : (names : List ℕ → Datum) (t : Suffixes) (value : Datum) (sum : ℕ) (found : Datum × ℕ) → walk names t value sum ≡ Ok found → sum ≤ found.1
  walk-grows names no_suffixes value sum found e = let same : (value, sum) ≡ found = cc in subst (λ (one : Datum × ℕ). sum ≤ one.1) same (omega arith)
  walk-grows names (with_suffix place key rest) value sum found e =
      let first = and_then-ok (find names key sum) _ found e in
      let second = and_then-ok (indexed place value first.0.0) _ found first.2 in
      let of_key = find-within names key sum first.0 first.1 in
      let of_rest = walk-grows names rest second.0 first.0.1 found second.2 in
      omega arith

  pub find_all-within : (names : List ℕ → Datum) (ts : Trees) (sum : ℕ) (found : List Datum × ℕ) → find_all names ts sum ≡ Ok found → AreWithin sum found
  find_all-within names no_trees sum found e = let same : ([], sum) ≡ found = cc in subst (AreWithin sum) same (omega arith, (λ low. low), tt)
  find_all-within names (with_tree first rest) sum found e =
      let one = and_then-ok (find names first sum) _ found e in
      let others = and_then-ok (find_all names rest one.0.1) _ found one.2 in
      let same : (one.0.0 ∷ others.0.0, others.0.1) ≡ found = cc in
      let of_first = find-within names first sum one.0 one.1 in
      let of_rest = find_all-within names rest one.0.1 others.0 others.1 in
      subst (AreWithin sum) same (omega arith, (λ low. of_rest.1 of_first.1), (of_first.2, of_rest.2))

  fill-grows : (names : List ℕ → Datum) (ts : Fields) (next : ℕ) (before : List Key) (made : Pairs) (sum : ℕ) (found : Pairs × ℕ) → fill names ts next before made sum ≡ Ok found → sum ≤ found.1
  fill-grows names no_fields next before made sum found e = let same : (made, sum) ≡ found = cc in subst (λ (one : Pairs × ℕ). sum ≤ one.1) same (omega arith)
  fill-grows names (with_position place value rest) next before made sum found e =
      let first = and_then-ok (unused place before (Int next)) _ found e in
      let second = and_then-ok (find names value sum) _ found first.2 in
      let of_value = find-within names value sum second.0 second.1 in
      let of_rest = fill-grows names rest (next + 1) (first.0 ∷ before) (with_value first.0 second.0.0 made) second.0.1 found second.2 in
      omega arith
  fill-grows names (with_key place key value rest) next before made sum found e =
      let first = and_then-ok (find names key sum) _ found e in
      let second = and_then-ok (key_of place first.0.0) _ found first.2 in
      let third = and_then-ok (unused place before second.0) _ found second.2 in
      let fourth = and_then-ok (find names value first.0.1) _ found third.2 in
      let of_key = find-within names key sum first.0 first.1 in
      let of_value = find-within names value first.0.1 fourth.0 fourth.1 in
      let of_rest = fill-grows names rest next (third.0 ∷ before) (with_value third.0 fourth.0.0 made) fourth.0.1 found fourth.2 in
      omega arith
