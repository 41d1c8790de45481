-- What is found is served, where names give what is served and integers are in their range.
use Rattle.std.proofs.Common.{◌≡◌, ◌≢◌, ℕ, ◌+◌, ◌≤◌, Bool, true, false, cond, List, [], ◌∷◌, ◌++◌, Option, Some, None, IfSome, Result, Ok, Err, refl, subst, arith}
use Rattle.std.specs.List.{AllByRecursion, list_any}
use Rattle.std.specs.Ordering.{is_eq}
use Rattle.std.specs.Fmt.{decimal}
use Rattle.lua_syntax.specs.Trees.{Tree, Suffixes, Trees, Fields, nil as nil_node, truth, int, text, name, index, concat, table, no_suffixes, with_suffix, no_trees, with_tree, no_fields, with_position, with_key}
use Rattle.lua_value.specs.declared.key.Key.{Key}
use Rattle.lua_value.specs.declared.key.Key.TheVariants.{Int, Text, Bool as Truth}
use Rattle.lua_value.specs.Key.{key_cmp, IsInteger, IsKey}
use Rattle.lua_value.specs.Ordered.{IsServed, IsOrdered}
use Rattle.lua_value.specs.Pairs.{Datum, Pairs, nil, truth_value, int_value, text_value, table_value, no_pairs, value_at}
use Rattle.lua_value.proofs.Puts.{IsOrdered-put, value_at-served}
use Rattle.lua_eval.specs.declared.fault.EvalFault.{EvalFault}
use Rattle.lua_eval.specs.declared.fault.EvalFault.TheVariants.{TwiceKey}
use Rattle.lua_eval.specs.declared.weight.TheConstants.{HEAVIEST}
use Rattle.lua_eval.specs.Finding.{HasIntegers, AreIntegersIn, AreIntegersAmong, AreIntegersOf}
use Rattle.lua_eval.specs.Joins.{join_two, join}
use Rattle.lua_eval.specs.Names.{or_nil}
use Rattle.lua_eval.specs.Values.{find, walk, find_all, fill, entry, indexed, key_of, unused, with_value}
use Rattle.lua_eval.specs.Weights.{weighed}
use Rattle.lua_eval.proofs.Sums.{and_then-ok, weighed-ok, weight-some, find-within}

-- ---- one step

-- what is weighed is served as it was
weighed-served : (place : ℕ) (value : Datum) (sum : ℕ) (found : Datum × ℕ) → IsServed value → weighed place value sum ≡ Ok found → IsServed found.0
weighed-served place value sum found served e = subst IsServed (weighed-ok place value sum found e).0 served

-- what a key has in a table
pub or_nil-served : (key : Key) (ps : Pairs) → IsOrdered ps → IsServed (or_nil (value_at key ps))
or_nil-served key ps ordered = by_value (value_at key ps) (value_at-served key ps ordered)
  where
    by_value : (value : Option Datum) → IfSome value (λ value. (value ≢ nil) × IsServed value) → IsServed (or_nil value)
    by_value None served = tt
    by_value (Some value) served = served.1

entry-served : (ps : Pairs) (key : Datum) → IsOrdered ps → IsServed (entry ps key)
entry-served ps nil ordered = tt
entry-served ps (truth_value b) ordered = or_nil-served (Truth b) ps ordered
entry-served ps (int_value n) ordered = or_nil-served (Int n) ps ordered
entry-served ps (text_value bytes) ordered = or_nil-served (Text bytes) ps ordered
entry-served ps (table_value key) ordered = tt

indexed-served : (place : ℕ) (value key inner : Datum) → IsServed value → indexed place value key ≡ Ok inner → IsServed inner
indexed-served place nil key inner served e = absurd (cc)
indexed-served place (truth_value b) key inner served e = absurd (cc)
indexed-served place (int_value n) key inner served e = absurd (cc)
indexed-served place (text_value bytes) key inner served e = absurd (cc)
indexed-served place (table_value ps) key inner served e = let same : entry ps key ≡ inner = cc in subst IsServed same (entry-served ps key served)

-- joined values are a text, or the one that there is
text-served : (bytes : List ℕ) (joined : Result Datum EvalFault) (whole : Datum) → joined ≡ Ok (text_value bytes) → joined ≡ Ok whole → IsServed whole
text-served bytes joined whole is e = let same : text_value bytes ≡ whole = cc in subst IsServed same tt

join_two-served : (place : ℕ) (left right whole : Datum) → join_two place left right ≡ Ok whole → IsServed whole
join_two-served place nil right whole e = absurd (cc)
join_two-served place (truth_value b) right whole e = absurd (cc)
join_two-served place (table_value ps) right whole e = absurd (cc)
join_two-served place (int_value n) nil whole e = absurd (cc)
join_two-served place (int_value n) (truth_value b) whole e = absurd (cc)
join_two-served place (int_value n) (int_value m) whole e = text-served (decimal n ++ decimal m) _ whole refl e
join_two-served place (int_value n) (text_value other) whole e = text-served (decimal n ++ other) _ whole refl e
join_two-served place (int_value n) (table_value ps) whole e = absurd (cc)
join_two-served place (text_value bytes) nil whole e = absurd (cc)
join_two-served place (text_value bytes) (truth_value b) whole e = absurd (cc)
join_two-served place (text_value bytes) (int_value m) whole e = text-served (bytes ++ decimal m) _ whole refl e
join_two-served place (text_value bytes) (text_value other) whole e = text-served (bytes ++ other) _ whole refl e
join_two-served place (text_value bytes) (table_value ps) whole e = absurd (cc)

join-served : (values : List Datum) (places : List ℕ) (whole : Datum) → AllByRecursion IsServed values → join values places ≡ Ok whole → IsServed whole
join-served [] places whole served e = let same : nil ≡ whole = cc in subst IsServed same tt
join-served (value ∷ []) places whole served e = let same : value ≡ whole = cc in subst IsServed same served.0
join-served (value ∷ other ∷ values) [] whole served e = let same : value ≡ whole = cc in subst IsServed same served.0
join-served (value ∷ other ∷ values) (place ∷ places) whole served e =
    let last = and_then-ok (join (other ∷ values) places) (join_two place value) whole e in join_two-served place value last.0 whole last.2

-- ---- keys

key_of-served : (place : ℕ) (value : Datum) (key : Key) → IsServed value → key_of place value ≡ Ok key → IsKey key
key_of-served place nil key served e = absurd (cc)
key_of-served place (truth_value b) key served e = let same : Truth b ≡ key = cc in subst IsKey same tt
key_of-served place (int_value n) key served e = let same : Int n ≡ key = cc in subst IsKey same served
key_of-served place (text_value bytes) key served e = let same : Text bytes ≡ key = cc in subst IsKey same tt
key_of-served place (table_value ps) key served e = absurd (cc)

unused-same : (place : ℕ) (before : List Key) (key found : Key) → unused place before key ≡ Ok found → key ≡ found
unused-same place before key found e = by_test (list_any (λ other. is_eq (key_cmp key other)) before) e
  where
    by_test : (b : Bool) → cond b (Err (TwiceKey place)) (Ok key) ≡ Ok found → key ≡ found
    by_test true e = absurd (cc)
    by_test false e = cc

with_value-ordered : (key : Key) (value : Datum) (made : Pairs) → IsKey key → IsServed value → IsOrdered made → IsOrdered (with_value key value made)
with_value-ordered key nil made is_key served ordered = ordered
with_value-ordered key (truth_value b) made is_key served ordered = IsOrdered-put key (truth_value b) made is_key (λ e. cc) served ordered
with_value-ordered key (int_value n) made is_key served ordered = IsOrdered-put key (int_value n) made is_key (λ e. cc) served ordered
with_value-ordered key (text_value bytes) made is_key served ordered = IsOrdered-put key (text_value bytes) made is_key (λ e. cc) served ordered
with_value-ordered key (table_value ps) made is_key served ordered = IsOrdered-put key (table_value ps) made is_key (λ e. cc) served ordered

-- a position that the sum bounds is a key
position-key : (next sum : ℕ) → next ≤ sum + 1 → sum ≤ HEAVIEST → IsInteger next
position-key next sum low light = omega arith

-- ---- trees

mutual
  find-served : (names : List ℕ → Datum) → ((bytes : List ℕ) → IsServed (names bytes)) → (t : Tree) (sum : ℕ) (found : Datum × ℕ) → HasIntegers t → find names t sum ≡ Ok found → IsServed found.0
  find-served names given (nil_node place) sum found integers e = weighed-served place nil sum found tt e
  find-served names given (truth place b) sum found integers e = weighed-served place (truth_value b) sum found tt e
  find-served names given (int place n) sum found integers e = weighed-served place (int_value n) sum found integers e
  find-served names given (text place bytes) sum found integers e = weighed-served place (text_value bytes) sum found tt e
  find-served names given (name place bytes) sum found integers e = weighed-served place (names bytes) sum found (given bytes) e
  find-served names given (index place base suffixes) sum found integers e =
      let first = and_then-ok (find names base sum) _ found e in
      let second = and_then-ok (walk names suffixes first.0.0 first.0.1) _ found first.2 in
      let of_base = find-served names given base sum first.0 integers.0 first.1 in
      let of_rest = walk-served names given suffixes first.0.0 first.0.1 second.0 integers.1 of_base second.1 in
      weighed-served place second.0.0 second.0.1 found of_rest second.2
  find-served names given (concat place operands operators) sum found integers e =
      let first = and_then-ok (find_all names operands sum) _ found e in
      let second = and_then-ok (join first.0.0 operators) _ found first.2 in
      let of_all = find_all-served names given operands sum first.0 integers first.1 in
      weighed-served place second.0 first.0.1 found (join-served first.0.0 operators second.0 of_all second.1) second.2
  find-served names given (table place fields) sum found integers e =
      let first = and_then-ok (fill names fields 1 [] no_pairs sum) _ found e in
      let of_fields = fill-ordered names given fields 1 [] no_pairs sum first.0 integers tt (omega arith) first.1 in
      weighed-served place (table_value first.0.0) first.0.1 found of_fields first.2

  walk-served : (names : List ℕ → Datum) → ((bytes : List ℕ) → IsServed (names bytes)) → (t : Suffixes) (value : Datum) (sum : ℕ) (found : Datum × ℕ) → AreIntegersIn t → IsServed value → walk names t value sum ≡ Ok found → IsServed found.0
  walk-served names given no_suffixes value sum found integers served e = let same : (value, sum) ≡ found = cc in subst (λ (one : Datum × ℕ). IsServed one.0) same served
  walk-served names given (with_suffix place key rest) value sum found integers served e =
      let first = and_then-ok (find names key sum) _ found e in
      let second = and_then-ok (indexed place value first.0.0) _ found first.2 in
      walk-served names given rest second.0 first.0.1 found integers.1 (indexed-served place value first.0.0 second.0 served second.1) second.2

  pub find_all-served : (names : List ℕ → Datum) → ((bytes : List ℕ) → IsServed (names bytes)) → (ts : Trees) (sum : ℕ) (found : List Datum × ℕ) → AreIntegersAmong ts → find_all names ts sum ≡ Ok found → AllByRecursion IsServed found.0
  find_all-served names given no_trees sum found integers e = let same : ([], sum) ≡ found = cc in subst (λ (all : List Datum × ℕ). AllByRecursion IsServed all.0) same tt
  find_all-served names given (with_tree first rest) sum found integers e =
      let one = and_then-ok (find names first sum) _ found e in
      let others = and_then-ok (find_all names rest one.0.1) _ found one.2 in
      let same : (one.0.0 ∷ others.0.0, others.0.1) ≡ found = cc in
      let of_first = find-served names given first sum one.0 integers.0 one.1 in
      let of_rest = find_all-served names given rest one.0.1 others.0 integers.1 others.1 in
      subst (λ (all : List Datum × ℕ). AllByRecursion IsServed all.0) same (of_first, of_rest)

  -- each field adds to the sum, and so the next position is at most one above it
  fill-ordered : (names : List ℕ → Datum) → ((bytes : List ℕ) → IsServed (names bytes)) → (ts : Fields) (next : ℕ) (before : List Key) (made : Pairs) (sum : ℕ) (found : Pairs × ℕ) → AreIntegersOf ts → IsOrdered made → next ≤ sum + 1 → fill names ts next before made sum ≡ Ok found → IsOrdered found.0
  fill-ordered names given no_fields next before made sum found integers ordered low e = let same : (made, sum) ≡ found = cc in subst (λ (one : Pairs × ℕ). IsOrdered one.0) same ordered
  fill-ordered names given (with_position place value rest) next before made sum found integers ordered low e =
      let first = and_then-ok (unused place before (Int next)) _ found e in
      let second = and_then-ok (find names value sum) _ found first.2 in
      let within = find-within names value sum second.0 second.1 in
      let some = weight-some second.0.0 in
      let is_key = subst IsKey (unused-same place before (Int next) first.0 first.1) (position-key next sum low (omega arith)) in
      let of_value = find-served names given value sum second.0 integers.0 second.1 in
      fill-ordered names given rest (next + 1) (first.0 ∷ before) (with_value first.0 second.0.0 made) second.0.1 found integers.1 (with_value-ordered first.0 second.0.0 made is_key of_value ordered) (omega arith) second.2
  fill-ordered names given (with_key place key value rest) next before made sum found integers ordered low e =
      let first = and_then-ok (find names key sum) _ found e in
      let second = and_then-ok (key_of place first.0.0) _ found first.2 in
      let third = and_then-ok (unused place before second.0) _ found second.2 in
      let fourth = and_then-ok (find names value first.0.1) _ found third.2 in
      let key_within = find-within names key sum first.0 first.1 in
      let within = find-within names value first.0.1 fourth.0 fourth.1 in
      let of_key = find-served names given key sum first.0 integers.0 first.1 in
      let is_key = subst IsKey (unused-same place before second.0 third.0 third.1) (key_of-served place first.0.0 second.0 of_key second.1) in
      let of_value = find-served names given value first.0.1 fourth.0 integers.1 fourth.1 in
      fill-ordered names given rest next (third.0 ∷ before) (with_value third.0 fourth.0.0 made) fourth.0.1 found integers.2 (with_value-ordered third.0 fourth.0.0 made is_key of_value ordered) (omega arith) fourth.2
