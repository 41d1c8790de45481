-- The globals that a map of names stands for, after one more is put into the map, and as they are put into a table.
use Rattle.std.proofs.Common.{◌≡◌, ◌≢◌, ℕ, List, [], ◌∷◌, ◌++◌, false, Option, Some, None, refl, sym, ap, ◌∙◌, subst, append_assoc}
use Rattle.std.proofs.lemmas.List.{append-nil}
use Rattle.std.proofs.lemmas.Map.Keys.{sorted_head, sorted_tail}
use Rattle.std.proofs.lemmas.Map.Lookups.{exact_bytes}
use Rattle.std.specs.declared.cmp.Ordering.{Ordering}
use Rattle.std.specs.declared.cmp.Ordering.TheVariants.{Less, Equal, Greater}
use Rattle.std.specs.Ordering.{is_eq, nat_cmp}
use Rattle.std.specs.Cmp.Lexicographic.{slice_cmp}
use Rattle.std.specs.List.{AllByRecursion}
use Rattle.std.specs.List.Sorted.{IsStrictlySortedBy}
use Rattle.std.specs.Map.{keys_of, lookup}
use Rattle.std.specs.BTreeMap.{insert_entry, is_at}
use Rattle.lua_value.specs.declared.key.Key.{Key}
use Rattle.lua_value.specs.declared.key.Key.TheVariants.{Text}
use Rattle.lua_value.specs.declared.table.Value.{Value}
use Rattle.lua_value.specs.declared.table.Value.TheVariants.{Nil}
use Rattle.lua_value.specs.Key.{key_cmp}
use Rattle.lua_value.specs.Pairs.{Datum, Pairs, nil, no_pairs, keys, value_at, put}
use Rattle.lua_value.specs.Ordered.{IsBeforeAll, IsOrdered}
use Rattle.lua_value.specs.View.{datum}
use Rattle.lua_value.proofs.KeyOrder.{key_cmp-itself, greater_turned}
use Rattle.lua_value.proofs.Puts.{IsBeforeAll-trans, value_at-before, put-before, put-after, put-over}
use Rattle.lua_scope.specs.Globals.{with_global}
use Rattle.lua_scope.specs.Views.{unless_nil, globals_of}
use Rattle.lua_scope.proofs.Unset.{value_at-past, without-first, without-past, without-before}

-- ---- a key before others
IsBeforeAll-unless_nil : (key first : Key) (value : Datum) (rest : Pairs) → key_cmp key first ≡ Less → IsBeforeAll key (keys rest) → IsBeforeAll key (keys (unless_nil first value rest))
IsBeforeAll-unless_nil key first nil rest e h = h
IsBeforeAll-unless_nil key first value rest e h = (e, h)

IsBeforeAll-globals_of : (name : List ℕ) (es : List (List ℕ × Value)) → AllByRecursion (λ q. slice_cmp nat_cmp name q ≡ Less) (keys_of es) → IsBeforeAll (Text name) (keys (globals_of es))
IsBeforeAll-globals_of name [] h = tt
IsBeforeAll-globals_of name (e ∷ es) h =
    IsBeforeAll-unless_nil (Text name) (Text e.0) (datum e.1) (globals_of es) h.0 (IsBeforeAll-globals_of name es h.1)

-- the first name of a map comes before the others
first_before : (e : List ℕ × Value) (es : List (List ℕ × Value)) → IsStrictlySortedBy (slice_cmp nat_cmp) (keys_of (e ∷ es)) → IsBeforeAll (Text e.0) (keys (globals_of es))
first_before e es h = IsBeforeAll-globals_of e.0 es (sorted_head (slice_cmp nat_cmp) e.0 (keys_of es) h)

-- ---- setting a global that comes before the others, has the first name, or comes later
with_global-before : (name : List ℕ) (value : Datum) (ps : Pairs) → IsBeforeAll (Text name) (keys ps) → with_global name value ps ≡ unless_nil (Text name) value ps
with_global-before name nil ps h = without-before (Text name) ps h
with_global-before name value ps h = put-before (Text name) value ps h

with_global-over : (name : List ℕ) (value old : Datum) (ps : Pairs) → IsBeforeAll (Text name) (keys ps) → with_global name value (unless_nil (Text name) old ps) ≡ unless_nil (Text name) value ps
with_global-over name value nil ps h = with_global-before name value ps h
with_global-over name nil old ps h = without-first (Text name) (Text name) old ps (key_cmp-itself (Text name))
with_global-over name value old ps h = put-over (Text name) value (Text name) old ps (key_cmp-itself (Text name))

with_global-after : (name : List ℕ) (value : Datum) (first : Key) (old : Datum) (ps : Pairs) → key_cmp (Text name) first ≡ Greater → with_global name value (unless_nil first old ps) ≡ unless_nil first old (with_global name value ps)
with_global-after name value first nil ps e = refl
with_global-after name nil first old ps e = without-past (Text name) first old ps (ap is_eq e)
with_global-after name value first old ps e = put-after (Text name) value first old ps (greater_turned (Text name) first e)

-- ---- a name put into the map
pub globals_of-insert_entry : (name : List ℕ) (value : Value) (es : List (List ℕ × Value)) → IsStrictlySortedBy (slice_cmp nat_cmp) (keys_of es) → globals_of (insert_entry (slice_cmp nat_cmp) es name value) ≡ with_global name (datum value) (globals_of es)
globals_of-insert_entry name value [] h = sym (with_global-before name (datum value) no_pairs tt)
globals_of-insert_entry name value (e ∷ es) h =
    by_cases (globals_of-insert_entry name value es (sorted_tail (slice_cmp nat_cmp) e.0 (keys_of es) h)) (slice_cmp nat_cmp name e.0) refl
  where
    by_cases : globals_of (insert_entry (slice_cmp nat_cmp) es name value) ≡ with_global name (datum value) (globals_of es) → (o : Ordering) → slice_cmp nat_cmp name e.0 ≡ o → globals_of (insert_entry (slice_cmp nat_cmp) (e ∷ es) name value) ≡ with_global name (datum value) (globals_of (e ∷ es))
    by_cases later Less less =
        let before = IsBeforeAll-unless_nil (Text name) (Text e.0) (datum e.1) (globals_of es) less (IsBeforeAll-trans (Text name) (Text e.0) (keys (globals_of es)) less (first_before e es h)) in
        rw less (sym (with_global-before name (datum value) (globals_of (e ∷ es)) before))
    by_cases later Equal equal =
        let same : name ≡ e.0 = exact_bytes name e.0 equal in
        rw equal
        (sym (ap (λ (n : List ℕ). with_global n (datum value) (globals_of (e ∷ es))) same ∙ with_global-over e.0 (datum value) (datum e.1) (globals_of es) (first_before e es h)))
    by_cases later Greater greater =
        rw greater
        (ap (unless_nil (Text e.0) (datum e.1)) later
        ∙ sym (with_global-after name (datum value) (Text e.0) (datum e.1) (globals_of es) greater))

-- ---- a name looked up in the map
-- the value of a global, from what the map has at its name
abbrev pub global_value : Option Value → Option Datum
global_value None = None
global_value (Some Nil) = None
global_value (Some value) = Some (datum value)

value_at-unless_nil : (key first : Key) (value : Datum) (rest : Pairs) → is_eq (key_cmp key first) ≡ false → value_at key (unless_nil first value rest) ≡ value_at key rest
value_at-unless_nil key first nil rest e = refl
value_at-unless_nil key first value rest e = value_at-past key first value rest e

value_at-first : (name : List ℕ) (value : Value) (ps : Pairs) → IsBeforeAll (Text name) (keys ps) → value_at (Text name) (unless_nil (Text name) (datum value) ps) ≡ global_value (Some value)
value_at-first name Nil ps h = value_at-before (Text name) ps h
value_at-first name value ps h = let itself = key_cmp-itself (Text name) in rw itself refl

pub value_at-globals_of : (name : List ℕ) (es : List (List ℕ × Value)) → IsStrictlySortedBy (slice_cmp nat_cmp) (keys_of es) → value_at (Text name) (globals_of es) ≡ global_value (lookup (is_at (slice_cmp nat_cmp name)) es)
value_at-globals_of name [] h = refl
value_at-globals_of name (e ∷ es) h =
    by_cases (value_at-globals_of name es (sorted_tail (slice_cmp nat_cmp) e.0 (keys_of es) h)) (slice_cmp nat_cmp name e.0) refl
  where
    by_cases : value_at (Text name) (globals_of es) ≡ global_value (lookup (is_at (slice_cmp nat_cmp name)) es) → (o : Ordering) → slice_cmp nat_cmp name e.0 ≡ o → value_at (Text name) (globals_of (e ∷ es)) ≡ global_value (lookup (is_at (slice_cmp nat_cmp name)) (e ∷ es))
    by_cases later Less less =
        value_at-unless_nil (Text name) (Text e.0) (datum e.1) (globals_of es) (ap is_eq less) ∙ later ∙ rw less refl
    by_cases later Equal equal =
        let same : name ≡ e.0 = exact_bytes name e.0 equal in
        ap (λ (n : List ℕ). value_at (Text n) (globals_of (e ∷ es))) same
        ∙ value_at-first e.0 e.1 (globals_of es) (first_before e es h) ∙ rw equal refl
    by_cases later Greater greater =
        value_at-unless_nil (Text name) (Text e.0) (datum e.1) (globals_of es) (ap is_eq greater) ∙ later ∙ rw greater refl

-- a value that the map has at the name, and that is not Nil
pub value_at-found : (name : List ℕ) (es : List (List ℕ × Value)) (value : Value) → IsStrictlySortedBy (slice_cmp nat_cmp) (keys_of es) → lookup (is_at (slice_cmp nat_cmp name)) es ≡ Some value → value ≢ Nil → value_at (Text name) (globals_of es) ≡ Some (datum value)
value_at-found name es value h found not_nil =
    value_at-globals_of name es h ∙ ap global_value found ∙ by_value value not_nil
  where
    by_value : (v : Value) → v ≢ Nil → global_value (Some v) ≡ Some (datum v)
    by_value Nil n = absurd (n refl)
    by_value v n = refl

-- ---- the globals put into a table, one after another
-- the table with the key, unless its value is nil
abbrev pub put_unless_nil : Key → Datum → Pairs → Pairs
put_unless_nil key nil ps = ps
put_unless_nil key value ps = put key value ps

-- the table with each of the globals that are left
abbrev pub with_all : Pairs → List (List ℕ × Value) → Pairs
with_all ps [] = ps
with_all ps (e ∷ es) = with_all (put_unless_nil (Text e.0) (datum e.1) ps) es

put_unless_nil-after : (key : Key) (value : Datum) (first : Key) (old : Datum) (ps : Pairs) → key_cmp first key ≡ Less → put_unless_nil key value (unless_nil first old ps) ≡ unless_nil first old (put_unless_nil key value ps)
put_unless_nil-after key value first nil ps e = refl
put_unless_nil-after key nil first old ps e = refl
put_unless_nil-after key value first old ps e = put-after key value first old ps e

put_unless_nil-nothing : (key : Key) (value : Datum) → put_unless_nil key value no_pairs ≡ unless_nil key value no_pairs
put_unless_nil-nothing key nil = refl
put_unless_nil-nothing key value = refl

globals_of-push : (xs : List (List ℕ × Value)) (e : List ℕ × Value) → AllByRecursion (λ q. slice_cmp nat_cmp q e.0 ≡ Less) (keys_of xs) → put_unless_nil (Text e.0) (datum e.1) (globals_of xs) ≡ globals_of (xs ++ e ∷ [])
globals_of-push [] e h = put_unless_nil-nothing (Text e.0) (datum e.1)
globals_of-push (x ∷ xs) e h =
    put_unless_nil-after (Text e.0) (datum e.1) (Text x.0) (datum x.1) (globals_of xs) h.0
    ∙ ap (unless_nil (Text x.0) (datum x.1)) (globals_of-push xs e h.1)

middle : (P : List ℕ → Type 0) (xs : List (List ℕ × Value)) (e : List ℕ × Value) (es : List (List ℕ × Value)) → AllByRecursion P (keys_of (xs ++ e ∷ es)) → P e.0
middle P [] e es h = h.0
middle P (x ∷ xs) e es h = middle P xs e es h.1

all_before : (xs : List (List ℕ × Value)) (e : List ℕ × Value) (es : List (List ℕ × Value)) → IsStrictlySortedBy (slice_cmp nat_cmp) (keys_of (xs ++ e ∷ es)) → AllByRecursion (λ q. slice_cmp nat_cmp q e.0 ≡ Less) (keys_of xs)
all_before [] e es h = tt
all_before (x ∷ xs) e es h =
    let others = keys_of (xs ++ e ∷ es) in
    (middle (λ q. slice_cmp nat_cmp x.0 q ≡ Less) xs e es (sorted_head (slice_cmp nat_cmp) x.0 others h), all_before xs e es (sorted_tail (slice_cmp nat_cmp) x.0 others h))

with_all-rest : (es xs : List (List ℕ × Value)) → IsStrictlySortedBy (slice_cmp nat_cmp) (keys_of (xs ++ es)) → with_all (globals_of xs) es ≡ globals_of (xs ++ es)
with_all-rest [] xs h = sym (ap globals_of (append-nil xs))
with_all-rest (e ∷ es) xs h =
    let together : (xs ++ e ∷ []) ++ es ≡ xs ++ e ∷ es = append_assoc xs (e ∷ []) es in
    ap (λ ps. with_all ps es) (globals_of-push xs e (all_before xs e es h))
    ∙ with_all-rest es (xs ++ e ∷ []) (subst (λ ys. IsStrictlySortedBy (slice_cmp nat_cmp) (keys_of ys)) (sym together) h)
    ∙ ap globals_of together

-- an empty table takes all of them
pub with_all-nothing : (es : List (List ℕ × Value)) → IsStrictlySortedBy (slice_cmp nat_cmp) (keys_of es) → with_all no_pairs es ≡ globals_of es
with_all-nothing es h = with_all-rest es [] h

-- the table has what all of them had but those that are left
pub record IsMoved (all table : Pairs) (left : List (List ℕ × Value)) : Type 0 where
  pub moved : with_all table left ≡ all
  pub ordered : IsOrdered table
  pub left_ordered : IsOrdered (globals_of left)
