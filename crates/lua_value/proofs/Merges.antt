-- The laws of merging, and the steps by which two lists are merged from their fronts.
use Rattle.std.proofs.Common.{◌≡◌, ◌≢◌, cond, Some, None, Option, IfSome, refl, sym, ap, ◌∙◌, subst}
use Rattle.std.specs.declared.cmp.Ordering.{Ordering}
use Rattle.std.specs.declared.cmp.Ordering.TheVariants.{Less, Equal, Greater}
use Rattle.std.specs.Ordering.{is_eq}
use Rattle.lua_value.specs.declared.key.Key.{Key}
use Rattle.lua_value.specs.Key.{key_cmp}
use Rattle.lua_value.specs.Pairs.{Datum, Pairs, nil, truth_value, int_value, text_value, table_value, no_pairs, with_pair, keys, value_at, put}
use Rattle.lua_value.specs.Ordered.{IsBeforeAll, IsServed, IsOrdered}
use Rattle.lua_value.specs.Merge.{merged_value, merged_pairs, merged_at}
use Rattle.lua_value.proofs.KeyOrder.{key_cmp-equal, key_cmp-itself, less_turned, equal_turned}
use Rattle.lua_value.proofs.Puts.{value_at-before, put-before, put-after, put-over, keys-put, IsOrdered-put, value_at-put, value_at-served, put-same}

-- what a look-up finds after a merge depends on what the two tables have at that key alone
pub value_at-merged_pairs : (key : Key) (lower upper : Pairs) → value_at key (merged_pairs lower upper) ≡ merged_at (value_at key lower) (value_at key upper)
value_at-merged_pairs key lower no_pairs = refl
value_at-merged_pairs key lower (with_pair first value rest) =
    value_at-put key first (merged_value (value_at first lower) value) (merged_pairs lower rest) ∙ by_cases (value_at-merged_pairs key lower rest) (key_cmp key first) refl
  where
    by_cases : value_at key (merged_pairs lower rest) ≡ merged_at (value_at key lower) (value_at key rest) → (o : Ordering) → key_cmp key first ≡ o → cond (is_eq o) (Some (merged_value (value_at first lower) value)) (value_at key (merged_pairs lower rest)) ≡ merged_at (value_at key lower) (cond (is_eq o) (Some value) (value_at key rest))
    by_cases later Less e = later
    by_cases later Equal e = ap (λ k. Some (merged_value (value_at k lower) value)) (sym (key_cmp-equal key first e))
    by_cases later Greater e = later

pub keys-merged_pairs : (first : Key) (lower upper : Pairs) → IsBeforeAll first (keys lower) → IsBeforeAll first (keys upper) → IsBeforeAll first (keys (merged_pairs lower upper))
keys-merged_pairs first lower no_pairs l u = l
keys-merged_pairs first lower (with_pair key value rest) l u =
    keys-put first key _ (merged_pairs lower rest) u.0 (keys-merged_pairs first lower rest l u.1)

-- a merge over nothing
pub merged_pairs-nothing : (upper : Pairs) → IsOrdered upper → merged_pairs no_pairs upper ≡ upper
merged_pairs-nothing no_pairs h = refl
merged_pairs-nothing (with_pair key value rest) h =
    ap (put key value) (merged_pairs-nothing rest h.4) ∙ put-before key value rest h.0

-- the lower list's first key comes first
pub merged_pairs-lower_first : (key : Key) (value : Datum) (lower upper : Pairs) → IsBeforeAll key (keys upper) → merged_pairs (with_pair key value lower) upper ≡ with_pair key value (merged_pairs lower upper)
merged_pairs-lower_first key value lower no_pairs u = refl
merged_pairs-lower_first key value lower (with_pair over above rest) u =
    let later : value_at over (with_pair key value lower) ≡ value_at over lower = rw (less_turned key over u.0) refl in
    ap (λ o. put over (merged_value o above) (merged_pairs (with_pair key value lower) rest)) later
    ∙ ap (put over (merged_value (value_at over lower) above)) (merged_pairs-lower_first key value lower rest u.1)
    ∙ put-after over _ key value _ u.0

-- the upper list's first key comes first
pub merged_pairs-upper_first : (over : Key) (above : Datum) (lower upper : Pairs) → IsBeforeAll over (keys lower) → IsBeforeAll over (keys upper) → merged_pairs lower (with_pair over above upper) ≡ with_pair over above (merged_pairs lower upper)
merged_pairs-upper_first over above lower upper l u =
    ap (λ o. put over (merged_value o above) (merged_pairs lower upper)) (value_at-before over lower l)
    ∙ put-before over above _ (keys-merged_pairs over lower upper l u)

-- both begin with one key
pub merged_pairs-both_first : (key over : Key) (value above : Datum) (lower upper : Pairs) → key_cmp key over ≡ Equal → IsBeforeAll over (keys upper) → merged_pairs (with_pair key value lower) (with_pair over above upper) ≡ with_pair over (merged_value (Some value) above) (merged_pairs lower upper)
merged_pairs-both_first key over value above lower upper e u =
    let turned = equal_turned key over e in
    let there : value_at over (with_pair key value lower) ≡ Some value = rw turned refl in
    let before : IsBeforeAll key (keys upper) = subst (λ k. IsBeforeAll k (keys upper)) (sym (key_cmp-equal key over e)) u in
    ap (λ o. put over (merged_value o above) (merged_pairs (with_pair key value lower) upper)) there
    ∙ ap (put over (merged_value (Some value) above)) (merged_pairs-lower_first key value lower upper before)
    ∙ put-over over _ key value _ turned

-- a value stays served and no nil under a merge
mutual
  merged_value-served : (lower : Option Datum) (upper : Datum) → IfSome lower (λ v. (v ≢ nil) × IsServed v) → upper ≢ nil → IsServed upper → (merged_value lower upper ≢ nil) × IsServed (merged_value lower upper)
  merged_value-served None upper l n u = (n, u)
  merged_value-served (Some (table_value lower)) (table_value upper) l n u = (λ e. cc, IsOrdered-merged_pairs lower upper l.1 u)
  merged_value-served (Some lower) upper l n u = (n, u)

  pub IsOrdered-merged_pairs : (lower upper : Pairs) → IsOrdered lower → IsOrdered upper → IsOrdered (merged_pairs lower upper)
  IsOrdered-merged_pairs lower no_pairs l u = l
  IsOrdered-merged_pairs lower (with_pair key value rest) l u =
      let here = merged_value-served (value_at key lower) value (value_at-served key lower l) u.2 u.3 in
      IsOrdered-put key _ (merged_pairs lower rest) u.1 here.0 here.1 (IsOrdered-merged_pairs lower rest l u.4)

-- each pair is found at its key
abbrev AllFound : Pairs → Pairs → Type 0
AllFound ps no_pairs = Unit {0}
AllFound ps (with_pair key value rest) = (value_at key ps ≡ Some value) × AllFound ps rest

AllFound-more : (first : Key) (old : Datum) (ps some : Pairs) → IsBeforeAll first (keys some) → AllFound ps some → AllFound (with_pair first old ps) some
AllFound-more first old ps no_pairs b h = tt
AllFound-more first old ps (with_pair key value rest) b h =
    let later : value_at key (with_pair first old ps) ≡ value_at key ps = rw (less_turned first key b.0) refl in
    (later ∙ h.0, AllFound-more first old ps rest b.1 h.1)

all_found : (ps : Pairs) → IsOrdered ps → AllFound ps ps
all_found no_pairs h = tt
all_found (with_pair key value rest) h =
    let here : value_at key (with_pair key value rest) ≡ Some value = rw (key_cmp-itself key) refl in
    (here, AllFound-more key value rest rest h.0 (all_found rest h.4))

-- the value is no table
abbrev pub IsFlat : Datum → Type 0
IsFlat nil = Unit {0}
IsFlat (truth_value b) = Unit {0}
IsFlat (int_value n) = Unit {0}
IsFlat (text_value bytes) = Unit {0}
IsFlat (table_value ps) = ⊥

-- a value that is no table stands over each other
pub merged_value-flat : (lower : Option Datum) (upper : Datum) → IsFlat upper → merged_value lower upper ≡ upper
merged_value-flat None upper h = refl
merged_value-flat (Some nil) upper h = refl
merged_value-flat (Some (truth_value b)) upper h = refl
merged_value-flat (Some (int_value n)) upper h = refl
merged_value-flat (Some (text_value bytes)) upper h = refl
merged_value-flat (Some (table_value ps)) nil h = refl
merged_value-flat (Some (table_value ps)) (truth_value b) h = refl
merged_value-flat (Some (table_value ps)) (int_value n) h = refl
merged_value-flat (Some (table_value ps)) (text_value bytes) h = refl
merged_value-flat (Some (table_value ps)) (table_value qs) h = absurd h

flat_again : (lower : Option Datum) (upper : Datum) → IsFlat upper → merged_value (Some (merged_value lower upper)) upper ≡ merged_value lower upper
flat_again lower upper h = merged_value-flat (Some (merged_value lower upper)) upper h ∙ sym (merged_value-flat lower upper h)

-- a table merged over itself, from what it is when merged twice over nothing
itself : (upper : Pairs) → IsOrdered upper → merged_pairs (merged_pairs no_pairs upper) upper ≡ merged_pairs no_pairs upper → merged_pairs upper upper ≡ upper
itself upper u twice =
    let nothing = merged_pairs-nothing upper u in
    ap (λ ps. merged_pairs ps upper) (sym nothing) ∙ twice ∙ nothing

-- merging a second time changes nothing
mutual
  merged_value-again : (lower : Option Datum) (upper : Datum) → IfSome lower (λ v. (v ≢ nil) × IsServed v) → IsServed upper → merged_value (Some (merged_value lower upper)) upper ≡ merged_value lower upper
  merged_value-again (Some (table_value lower)) (table_value upper) l u = ap table_value (merged_pairs-found upper lower upper (all_found upper u) l.1 u u)
  merged_value-again None (table_value upper) l u = ap table_value (itself upper u (merged_pairs-found upper no_pairs upper (all_found upper u) tt u u))
  merged_value-again (Some nil) (table_value upper) l u = ap table_value (itself upper u (merged_pairs-found upper no_pairs upper (all_found upper u) tt u u))
  merged_value-again (Some (truth_value b)) (table_value upper) l u = ap table_value (itself upper u (merged_pairs-found upper no_pairs upper (all_found upper u) tt u u))
  merged_value-again (Some (int_value n)) (table_value upper) l u = ap table_value (itself upper u (merged_pairs-found upper no_pairs upper (all_found upper u) tt u u))
  merged_value-again (Some (text_value bytes)) (table_value upper) l u = ap table_value (itself upper u (merged_pairs-found upper no_pairs upper (all_found upper u) tt u u))
  merged_value-again lower nil l u = flat_again lower nil tt
  merged_value-again lower (truth_value b) l u = flat_again lower (truth_value b) tt
  merged_value-again lower (int_value n) l u = flat_again lower (int_value n) tt
  merged_value-again lower (text_value bytes) l u = flat_again lower (text_value bytes) tt

  merged_pairs-found : (all lower upper : Pairs) → AllFound all upper → IsOrdered lower → IsOrdered all → IsOrdered upper → merged_pairs (merged_pairs lower all) upper ≡ merged_pairs lower all
  merged_pairs-found all lower no_pairs f l a u = refl
  merged_pairs-found all lower (with_pair key value rest) f l a u =
      let once = merged_value-again (value_at key lower) value (value_at-served key lower l) u.3 in
      let there : value_at key (merged_pairs lower all) ≡ Some (merged_value (value_at key lower) value) = value_at-merged_pairs key lower all ∙ ap (merged_at (value_at key lower)) f.0 in
      let same : merged_value (value_at key (merged_pairs lower all)) value ≡ merged_value (value_at key lower) value = ap (λ o. merged_value o value) there ∙ once in
      ap (put key _) (merged_pairs-found all lower rest f.1 l a u.4)
      ∙ ap (λ v. put key v (merged_pairs lower all)) same
      ∙ put-same key _ (merged_pairs lower all) (IsOrdered-merged_pairs lower all l a) there

pub merged_pairs-again : (lower upper : Pairs) → IsOrdered lower → IsOrdered upper → merged_pairs (merged_pairs lower upper) upper ≡ merged_pairs lower upper
merged_pairs-again lower upper l u = merged_pairs-found upper lower upper (all_found upper u) l u u
