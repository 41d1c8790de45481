-- What one assignment does to a state that is kept.
use Rattle.std.proofs.Common.{◌≡◌, ◌≢◌, ℕ, ◌+◌, ◌≤◌, Bool, true, false, cond, is_some, List, [], ◌∷◌, ◌++◌, Option, Some, None, IfSome, refl, ◌∙◌, arith}
use Rattle.std.specs.List.{AllByRecursion}
use Rattle.std.specs.Option.{option_or}
use Rattle.std.specs.Ordering.{is_eq}
use Rattle.std.specs.Str.{bytes_eq}
use Rattle.lua_syntax.specs.declared.tree.Named.{Named}
use Rattle.lua_value.specs.declared.key.Key.{Key}
use Rattle.lua_value.specs.declared.key.Key.TheVariants.{Text}
use Rattle.lua_value.specs.Depth.{value_depth, depth}
use Rattle.lua_value.specs.Key.{key_cmp}
use Rattle.lua_value.specs.Ordered.{IsBeforeAll, IsServed, IsOrdered}
use Rattle.lua_value.specs.Pairs.{Datum, Pairs, nil, truth_value, int_value, text_value, table_value, no_pairs, with_pair, keys, put}
use Rattle.lua_value.proofs.Puts.{by_order, IsOrdered-put}
use Rattle.lua_scope.specs.Globals.{without, with_global}
use Rattle.lua_scope.specs.Locals.{latest, reset}
use Rattle.lua_eval.specs.declared.weight.TheConstants.{DEEPEST}
use Rattle.lua_eval.specs.Laws.{values_weight, IsKeptValue}
use Rattle.lua_eval.specs.Names.{given, paired}
use Rattle.lua_eval.specs.Values.{State, assigned, assign_all}
use Rattle.lua_eval.specs.Weights.{weight}
use Rattle.lua_eval.proofs.Served.{or_nil-served}
use Rattle.lua_eval.proofs.Sums.{total_weight}

-- ---- a pair that is put in

put-weight : (key : Key) (value : Datum) (ps : Pairs) → values_weight (put key value ps) ≤ values_weight ps + weight value
put-weight key value no_pairs = omega arith
put-weight key value (with_pair first old rest) =
    by_order (λ made. values_weight made ≤ weight old + values_weight rest + weight value) (key_cmp key first) _ _ _
    (λ _. omega arith)
    (λ _. omega arith)
    (λ _. omega (arith, put-weight key value rest))

put-depth : (key : Key) (value : Datum) (ps : Pairs) (most : ℕ) → value_depth value ≤ most → depth ps ≤ most → depth (put key value ps) ≤ most
put-depth key value no_pairs most deep all = omega arith
put-depth key value (with_pair first old rest) most deep all =
    by_order (λ made. depth made ≤ most) (key_cmp key first) _ _ _
    (λ _. omega arith)
    (λ _. omega arith)
    (λ _. omega (arith, put-depth key value rest most deep (omega arith)))

-- ---- a key that is taken out

-- a choice by a test, case by case
pub by_test : {A : Type 0} (P : A → Type 0) (b : Bool) (x y : A) → P x → P y → P (cond b x y)
by_test P true x y p q = p
by_test P false x y p q = q

without-weight : (key : Key) (ps : Pairs) → values_weight (without key ps) ≤ values_weight ps
without-weight key no_pairs = omega arith
without-weight key (with_pair first old rest) =
    by_test (λ made. values_weight made ≤ weight old + values_weight rest) (is_eq (key_cmp key first)) _ _ (omega arith) (omega (arith, without-weight key rest))

without-depth : (key : Key) (ps : Pairs) (most : ℕ) → depth ps ≤ most → depth (without key ps) ≤ most
without-depth key no_pairs most all = all
without-depth key (with_pair first old rest) most all =
    by_test (λ made. depth made ≤ most) (is_eq (key_cmp key first)) _ _ (omega arith) (omega (arith, without-depth key rest most (omega arith)))

without-before : (before key : Key) (ps : Pairs) → IsBeforeAll before (keys ps) → IsBeforeAll before (keys (without key ps))
without-before before key no_pairs h = tt
without-before before key (with_pair first old rest) h =
    by_test (λ made. IsBeforeAll before (keys made)) (is_eq (key_cmp key first)) _ _ h.1 (h.0, without-before before key rest h.1)

without-ordered : (key : Key) (ps : Pairs) → IsOrdered ps → IsOrdered (without key ps)
without-ordered key no_pairs h = tt
without-ordered key (with_pair first old rest) h =
    by_test IsOrdered (is_eq (key_cmp key first)) _ _ h.4 (without-before first key rest h.0, h.1, h.2, h.3, without-ordered key rest h.4)

-- ---- a global that is set

-- what a global has to keep, with so much of the sum left
abbrev AreKeptGlobals : ℕ → Pairs → Type 0
AreKeptGlobals most ps = IsOrdered ps × (depth ps ≤ DEEPEST) × (values_weight ps ≤ most)

put-kept : (name : List ℕ) (value : Datum) (most : ℕ) (ps : Pairs) → value ≢ nil → IsKeptValue value → AreKeptGlobals most ps → AreKeptGlobals (most + weight value) (put (Text name) value ps)
put-kept name value most ps some kept h =
    (IsOrdered-put (Text name) value ps tt some kept.0 h.0, put-depth (Text name) value ps DEEPEST kept.1 h.1, omega (arith, put-weight (Text name) value ps))

with_global-nil : (name : List ℕ) (most : ℕ) (ps : Pairs) → AreKeptGlobals most ps → AreKeptGlobals most (with_global name nil ps)
with_global-nil name most ps h = (without-ordered (Text name) ps h.0, without-depth (Text name) ps DEEPEST h.1, omega (arith, without-weight (Text name) ps))

more-kept : (most more : ℕ) (ps : Pairs) → most ≤ more → AreKeptGlobals most ps → AreKeptGlobals more ps
more-kept most more ps low h = (h.0, h.1, omega arith)

with_global-kept : (name : List ℕ) (value : Datum) (most : ℕ) (ps : Pairs) → IsKeptValue value → AreKeptGlobals most ps → AreKeptGlobals (most + weight value) (with_global name value ps)
with_global-kept name nil most ps kept h = more-kept most _ _ (omega arith) (with_global-nil name most ps h)
with_global-kept name (truth_value b) most ps kept h = put-kept name (truth_value b) most ps (λ e. cc) kept h
with_global-kept name (int_value n) most ps kept h = put-kept name (int_value n) most ps (λ e. cc) kept h
with_global-kept name (text_value bytes) most ps kept h = put-kept name (text_value bytes) most ps (λ e. cc) kept h
with_global-kept name (table_value inner) most ps kept h = put-kept name (table_value inner) most ps (λ e. cc) kept h

-- ---- locals

abbrev AreKeptLocals : List (List ℕ × Datum) → Type 0
AreKeptLocals locals = AllByRecursion (λ local. IsKeptValue local.1) locals

reset-kept : (name : List ℕ) (value : Datum) (locals : List (List ℕ × Datum)) → IsKeptValue value → AreKeptLocals locals → AreKeptLocals (reset name value locals)
reset-kept name value [] kept h = tt
reset-kept name value (local ∷ rest) kept h =
    by_test AreKeptLocals (is_some (latest name rest)) _ _
    (h.0, reset-kept name value rest kept h.1)
    (by_test AreKeptLocals (bytes_eq local.0 name) _ _ (kept, h.1) h)

pub appended-kept : (locals more : List (List ℕ × Datum)) → AreKeptLocals locals → AreKeptLocals more → AreKeptLocals (locals ++ more)
appended-kept [] more h k = k
appended-kept (local ∷ rest) more h k = (h.0, appended-kept rest more h.1 k)

latest-served : (name : List ℕ) (locals : List (List ℕ × Datum)) → AreKeptLocals locals → IfSome (latest name locals) IsServed
latest-served name [] h = tt
latest-served name (local ∷ rest) h = or-served (latest name rest) _ (latest-served name rest h.1) (by_test (λ value. IfSome value IsServed) (bytes_eq local.0 name) _ _ h.0.0 tt)
  where
    or-served : (a b : Option Datum) → IfSome a IsServed → IfSome b IsServed → IfSome (option_or a b) IsServed
    or-served None b p q = q
    or-served (Some value) b p q = p

-- what a name stands for
pub given-served : (locals : List (List ℕ × Datum)) (globals : Pairs) → AreKeptLocals locals → IsOrdered globals → (name : List ℕ) → IsServed (given locals globals name)
given-served locals globals h ordered name = by_value (latest name locals) refl (latest-served name locals h)
  where
    by_value : (value : Option Datum) → latest name locals ≡ value → IfSome value IsServed → IsServed (given locals globals name)
    by_value None e served = rw e (or_nil-served (Text name) globals ordered)
    by_value (Some value) e served = rw e served

-- ---- states

-- what is kept of a state, with this much room for the globals' values
abbrev IsKeptUnder : ℕ → State → Type 0
IsKeptUnder most state = AreKeptLocals state.locals × AreKeptGlobals most state.globals

under-more : (most more : ℕ) (state : State) → most ≤ more → IsKeptUnder most state → IsKeptUnder more state
under-more most more state low h = (h.0, more-kept most more state.globals low h.1)

assigned-kept : (name : List ℕ) (value : Datum) (most : ℕ) (state : State) → IsKeptValue value → IsKeptUnder most state → IsKeptUnder (most + weight value) (assigned name value state)
assigned-kept name value most state kept h =
    by_test (IsKeptUnder (most + weight value)) (is_some (latest name state.locals)) _ _
    (reset-kept name value state.locals kept h.0, more-kept most _ state.globals (omega arith) h.1)
    (h.0, with_global-kept name value most state.globals kept h.1)

assigned-nil : (name : List ℕ) (most : ℕ) (state : State) → IsKeptUnder most state → IsKeptUnder most (assigned name nil state)
assigned-nil name most state h =
    by_test (IsKeptUnder most) (is_some (latest name state.locals)) _ _
    (reset-kept name nil state.locals (tt, omega arith) h.0, h.1)
    (h.0, with_global-nil name most state.globals h.1)

-- all that is assigned at once
pub assign_all-kept : (names : List Named) (values : List Datum) (most : ℕ) (state : State) → AllByRecursion IsKeptValue values → IsKeptUnder most state → IsKeptUnder (most + total_weight values) (assign_all (paired names values) state)
assign_all-kept [] values most state kept h = under-more most _ state (omega arith) h
assign_all-kept (named ∷ names) [] most state kept h = assign_all-kept names [] most (assigned named.name nil state) tt (assigned-nil named.name most state h)
assign_all-kept (named ∷ names) (value ∷ values) most state kept h =
    under-more _ _ (assign_all (paired names values) (assigned named.name value state)) (omega arith)
    (assign_all-kept names values (most + weight value) (assigned named.name value state) kept.1 (assigned-kept named.name value most state kept.0 h))

-- an assignment leaves the sum
pub assign_all-sum : (pairs : List (List ℕ × Datum)) (state : State) → (assign_all pairs state).sum ≡ state.sum
assign_all-sum [] state = refl
assign_all-sum (pair ∷ pairs) state = assign_all-sum pairs (assigned pair.0 pair.1 state) ∙ by_test (λ (next : State). next.sum ≡ state.sum) (is_some (latest pair.0 state.locals)) _ _ refl refl

-- new locals are kept with their values
pub paired-kept : (names : List Named) (values : List Datum) → AllByRecursion IsKeptValue values → AreKeptLocals (paired names values)
paired-kept [] values kept = tt
paired-kept (named ∷ names) [] kept = ((tt, omega arith), paired-kept names [] tt)
paired-kept (named ∷ names) (value ∷ values) kept = (kept.0, paired-kept names values kept.1)
