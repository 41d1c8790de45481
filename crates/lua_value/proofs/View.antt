-- What lists of entries are seen as, and what edits of them do to that.
use Rattle.std.proofs.Common.{append_assoc, ◌≡◌, ◌≢◌, ℕ, zero, suc, ◌+◌, ◌<◌, ◌≤◌, List, [], ◌∷◌, ◌++◌, length, get_or, set, drop, Some, None, Result, Ok, Err, MatchResult, option_map, refl, sym, ap, ◌∙◌, subst, arith, add-one}
use Rattle.std.proofs.lemmas.List.{drop_all, append-nil}
use Rattle.std.specs.List.{insert, slice_get}
use Rattle.std.specs.List.Sorted.{IsSearchInRange, IsBinarySearchResult, IsNonDecreasingBy}
use Rattle.std.specs.declared.cmp.Ordering.{Ordering}
use Rattle.std.specs.declared.cmp.Ordering.TheVariants.{Less, Equal, Greater}
use Rattle.std.specs.Ordering.{ordering_index}
use Rattle.lua_value.specs.declared.key.Key.{Key}
use Rattle.lua_value.specs.declared.key.Key.TheVariants.{Int as number}
use Rattle.lua_value.specs.declared.table.Value.{Value}
use Rattle.lua_value.specs.declared.table.Value.TheVariants.{Nil, Bool, Int, Text, Table}
use Rattle.lua_value.specs.Depth.{value_depth, depth}
use Rattle.lua_value.specs.Key.{key_cmp, IsKey}
use Rattle.lua_value.specs.Pairs.{Datum, nil, with_pair, count, listed, keys, value_at, put, IsListFrom}
use Rattle.lua_value.specs.Ordered.{IsBeforeAll, IsServed, IsOrdered}
use Rattle.lua_value.specs.Place.{IsPlaceOf, IsGapFor}
use Rattle.lua_value.specs.View.{datum, pairs_of}
use Rattle.lua_value.proofs.KeyOrder.{key_cmp-equal, key_cmp-trans, less_turned, greater_turned, equal_turned}
use Rattle.lua_value.proofs.Puts.{put-after, put-over}

abbrev pub Entries : Type 0
Entries = List (Key × Value)

abbrev pub seen : Key × Value → Key × Datum
seen e = (e.0, datum e.1)

pub count-pairs_of : (es : Entries) → count (pairs_of es) ≡ length es
count-pairs_of [] = refl
count-pairs_of (e ∷ es) = ap suc (count-pairs_of es)

pub listed-pairs_of : (es : Entries) (i : ℕ) → slice_get (listed (pairs_of es)) i ≡ option_map seen (slice_get es i)
listed-pairs_of [] i = refl
listed-pairs_of (e ∷ es) zero = refl
listed-pairs_of (e ∷ es) (suc i) = listed-pairs_of es i

-- only Nil is seen as nil
pub no_nil : (value : Value) → value ≢ Nil → datum value ≢ nil
no_nil Nil h = absurd (h refl)
no_nil (Bool b) h = λ e. cc
no_nil (Int n) h = λ e. cc
no_nil (Text bytes) h = λ e. cc
no_nil (Table ps) h = λ e. cc

pub some_value : (value : Value) → datum value ≢ nil → value ≢ Nil
some_value value h = λ e. h (ap datum e)

-- what stands at a place of an ordered list is served
pub served_at : (es : Entries) (i : ℕ) (x : Key × Value) → IsOrdered (pairs_of es) → slice_get es i ≡ Some x → IsKey x.0 × (x.1 ≢ Nil) × IsServed (datum x.1)
served_at [] i x h found = cc
served_at (e ∷ es) zero x h found = let same : e ≡ x = cc in rw (← same) (h.1, some_value e.1 h.2, h.3)
served_at (e ∷ es) (suc i) x h found = served_at es i x h.4 found

-- a key before all others is before the one at any place
before_at : (key : Key) (es : Entries) (i : ℕ) (d : Key × Value) → IsBeforeAll key (keys (pairs_of es)) → i < length es → key_cmp key (get_or es i d).0 ≡ Less
before_at key [] i d h lt = absurd (omega arith)
before_at key (e ∷ es) zero d h lt = h.0
before_at key (e ∷ es) (suc i) d h lt = before_at key es i d h.1 (omega arith)

-- how keys in order compare with a further one
index_rises : (a b key : Key) → key_cmp a b ≡ Less → ordering_index (key_cmp a key) ≤ ordering_index (key_cmp b key)
index_rises a b key less = by_cases (key_cmp a key) (key_cmp b key) refl refl
  where
    by_cases : (o p : Ordering) → key_cmp a key ≡ o → key_cmp b key ≡ p → ordering_index o ≤ ordering_index p
    by_cases Less p e f = omega arith
    by_cases Equal Less e f =
        let same = key_cmp-equal a key e in
        let back : key_cmp a b ≡ Greater = subst (λ k. key_cmp k b ≡ Greater) (sym same) (less_turned b key f) in
        cc
    by_cases Equal Equal e f = omega arith
    by_cases Equal Greater e f = omega arith
    by_cases Greater Less e f =
        let through = key_cmp-trans a b key less f in
        cc
    by_cases Greater Equal e f =
        let same = key_cmp-equal b key f in
        let below : key_cmp a key ≡ Less = subst (λ k. key_cmp a k ≡ Less) same less in
        cc
    by_cases Greater Greater e f = omega arith

comparisons_rise : (key : Key) (es : Entries) → IsOrdered (pairs_of es) → IsNonDecreasingBy (λ (e : Key × Value). ordering_index (key_cmp e.0 key)) es
comparisons_rise key [] h i j d le lt = absurd (omega arith)
comparisons_rise key (e ∷ es) h zero zero d le lt = omega arith
comparisons_rise key (e ∷ es) h zero (suc j) d le lt = index_rises e.0 (get_or es j d).0 key (before_at e.0 es j d h.0 (omega arith))
comparisons_rise key (e ∷ es) h (suc i) zero d le lt = absurd (omega arith)
comparisons_rise key (e ∷ es) h (suc i) (suc j) d le lt = comparisons_rise key es h.4 i j d (omega arith) (omega arith)

-- a binary search by key ends at the key's place, or at the gap for it
pub searched : (key : Key) (es : Entries) (r : Result ℕ ℕ) → IsOrdered (pairs_of es) → IsSearchInRange r (length es) → IsBinarySearchResult (λ (e : Key × Value). key_cmp e.0 key) es r → MatchResult r (IsPlaceOf key es) (IsGapFor key es)
searched key es (Ok i) h in_range found = (in_range, found)
searched key es (Err i) h in_range parted = let parts = parted (comparisons_rise key es h) in (in_range, parts.0, parts.1)

-- the gap in the rest of a list
gap_rest : (key : Key) (e : Key × Value) (es : Entries) (i : ℕ) → IsGapFor key (e ∷ es) (suc i) → IsGapFor key es i
gap_rest key e es i g = (
  omega (arith, g.0),
  λ k d le lt. g.1 (suc k) d (omega arith) (omega arith),
  λ k d le lt. g.2 (suc k) d (omega arith) (omega arith),
)

-- a key that has a gap is put in there
pub put-gap : (key : Key) (value : Value) (es : Entries) (i : ℕ) → IsGapFor key es i → pairs_of (insert es i (key, value)) ≡ put key (datum value) (pairs_of es)
put-gap key value [] zero g = refl
put-gap key value [] (suc i) g = absurd (omega (arith, g.0))
put-gap key value (e ∷ es) zero g =
    let greater : key_cmp e.0 key ≡ Greater = g.2 0 (key, value) (omega arith) (omega arith) in
    let less = greater_turned e.0 key greater in
    rw less refl
put-gap key value (e ∷ es) (suc i) g =
    let less : key_cmp e.0 key ≡ Less = g.1 0 (key, value) (omega arith) (omega arith) in
    ap (with_pair e.0 (datum e.1)) (put-gap key value es i (gap_rest key e es i g))
    ∙ sym (put-after key (datum value) e.0 (datum e.1) (pairs_of es) less)

-- a key that has a gap is not there
pub value_at-gap : (key : Key) (es : Entries) (i : ℕ) → IsGapFor key es i → value_at key (pairs_of es) ≡ None
value_at-gap key [] i g = refl
value_at-gap key (e ∷ es) zero g =
    let greater : key_cmp e.0 key ≡ Greater = g.2 0 e (omega arith) (omega arith) in
    rw (greater_turned e.0 key greater) (value_at-gap key es zero (omega arith, (λ k d le lt. absurd (omega arith)), λ k d le lt. g.2 (suc k) d (omega arith) (omega arith)))
value_at-gap key (e ∷ es) (suc i) g =
    let less : key_cmp e.0 key ≡ Less = g.1 0 e (omega arith) (omega arith) in
    rw (less_turned e.0 key less) (value_at-gap key es i (gap_rest key e es i g))

place_rest : (key : Key) (e : Key × Value) (es : Entries) (i : ℕ) → IsPlaceOf key (e ∷ es) (suc i) → IsPlaceOf key es i
place_rest key e es i p = (omega (arith, p.0), λ d. p.1 d)

-- an entry before the key's place has a smaller key
first_below : (key : Key) (e : Key × Value) (es : Entries) (i : ℕ) → IsOrdered (pairs_of (e ∷ es)) → IsPlaceOf key (e ∷ es) (suc i) → key_cmp e.0 key ≡ Less
first_below key e es i h p =
    let before = before_at e.0 es i e h.0 (omega (arith, p.0)) in
    subst (λ k. key_cmp e.0 k ≡ Less) (key_cmp-equal _ key (p.1 e)) before

-- a key that has a place is put over the entry there
pub put-place : (key : Key) (value : Value) (es : Entries) (i : ℕ) → IsOrdered (pairs_of es) → IsPlaceOf key es i → pairs_of (set es i (key, value)) ≡ put key (datum value) (pairs_of es)
put-place key value [] i h p = absurd (omega (arith, p.0))
put-place key value (e ∷ es) zero h p = sym (put-over key (datum value) e.0 (datum e.1) (pairs_of es) (equal_turned e.0 key (p.1 e)))
put-place key value (e ∷ es) (suc i) h p =
    ap (with_pair e.0 (datum e.1)) (put-place key value es i h.4 (place_rest key e es i p))
    ∙ sym (put-after key (datum value) e.0 (datum e.1) (pairs_of es) (first_below key e es i h p))

-- and its value is the one there
pub value_at-place : (key : Key) (es : Entries) (i : ℕ) (x : Key × Value) → IsOrdered (pairs_of es) → IsPlaceOf key es i → slice_get es i ≡ Some x → value_at key (pairs_of es) ≡ Some (datum x.1)
value_at-place key [] i x h p found = absurd (omega (arith, p.0))
value_at-place key (e ∷ es) zero x h p found = let same : e ≡ x = cc in rw (equal_turned e.0 key (p.1 e)) (ap (λ (y : Key × Value). Some (datum y.1)) same)
value_at-place key (e ∷ es) (suc i) x h p found =
    let less = first_below key e es i h p in
    rw (less_turned e.0 key less) (value_at-place key es i x h.4 (place_rest key e es i p) found)

-- what is left at a place begins with the entry there
pub drop-entry : (es : Entries) (i : ℕ) (x : Key × Value) → slice_get es i ≡ Some x → drop i es ≡ x ∷ drop (i + 1) es
drop-entry es i x e = rw add-one (by_suc es i x e)
  where
    by_suc : (es : Entries) (i : ℕ) (x : Key × Value) → slice_get es i ≡ Some x → drop i es ≡ x ∷ drop (suc i) es
    by_suc [] i x e = cc
    by_suc (e ∷ es) zero x found = let same : e ≡ x = cc in ap (λ p. p ∷ es) same
    by_suc (e ∷ es) (suc i) x found = by_suc es i x found

pub none_beyond : (es : Entries) (i : ℕ) → length es ≤ i → slice_get es i ≡ None
none_beyond [] i out = refl
none_beyond (e ∷ es) zero out = absurd (omega arith)
none_beyond (e ∷ es) (suc i) out = none_beyond es i (omega arith)

-- entries that are taken over one by one
pub walk_step : (out new es : Entries) (i : ℕ) (item x : Key × Value) (all : Entries) → new ≡ out ++ item ∷ [] → item ≡ x → slice_get es i ≡ Some x → out ++ drop i es ≡ all → new ++ drop (i + 1) es ≡ all
walk_step out new es i item x all n same at e =
    ap (λ xs. xs ++ drop (i + 1) es) n ∙ append_assoc out (item ∷ []) (drop (i + 1) es)
    ∙ ap (λ y. out ++ y ∷ drop (i + 1) es) same
    ∙ ap (λ xs. out ++ xs) (sym (drop-entry es i x at)) ∙ e

pub walk_end : (out es : Entries) (i : ℕ) (all : Entries) → length es ≤ i → out ++ drop i es ≡ all → out ≡ all
walk_end out es i all beyond e = sym (append-nil out) ∙ ap (λ xs. out ++ xs) (sym (drop_all i es beyond)) ∙ e

-- whether the keys from a place on are numbers from one on
pub list_opened : (es : Entries) (i n : ℕ) (x : Key × Value) → slice_get es i ≡ Some x → IsListFrom n (pairs_of (drop i es)) → (x.0 ≡ number n) × IsListFrom (n + 1) (pairs_of (drop (i + 1) es))
list_opened es i n x at h = subst (λ xs. IsListFrom n (pairs_of xs)) (drop-entry es i x at) h

pub list_closed : (es : Entries) (i n : ℕ) (x : Key × Value) → slice_get es i ≡ Some x → x.0 ≡ number n → IsListFrom (n + 1) (pairs_of (drop (i + 1) es)) → IsListFrom n (pairs_of (drop i es))
list_closed es i n x at k h = subst (λ xs. IsListFrom n (pairs_of xs)) (sym (drop-entry es i x at)) (k, h)

pub list_end : (es : Entries) (i n : ℕ) → length es ≤ i → IsListFrom n (pairs_of (drop i es))
list_end es i n beyond = subst (λ xs. IsListFrom n (pairs_of xs)) (sym (drop_all i es beyond)) tt

-- a value within a table is no deeper than the table
pub depth_at : (es : Entries) (i : ℕ) (x : Key × Value) → slice_get es i ≡ Some x → value_depth (datum x.1) ≤ depth (pairs_of es)
depth_at [] i x at = cc
depth_at (e ∷ es) zero x at = let same : e ≡ x = cc in rw (← same) (omega arith)
depth_at (e ∷ es) (suc i) x at = omega (arith, depth_at es i x at)
