-- What taking a key away, and setting a global, does to a list of pairs.
use Rattle.std.proofs.Common.{◌≡◌, ◌≢◌, ℕ, List, true, false, cond, Some, None, refl, sym, ap, ◌∙◌}
use Rattle.std.specs.declared.cmp.Ordering.{Ordering}
use Rattle.std.specs.declared.cmp.Ordering.TheVariants.{Less, Equal, Greater}
use Rattle.std.specs.Ordering.{is_eq}
use Rattle.lua_value.specs.declared.key.Key.{Key}
use Rattle.lua_value.specs.declared.key.Key.TheVariants.{Text}
use Rattle.lua_value.specs.Key.{key_cmp}
use Rattle.lua_value.specs.Pairs.{Datum, Pairs, nil, no_pairs, with_pair, keys, value_at}
use Rattle.lua_value.specs.Ordered.{IsBeforeAll, IsServed, IsOrdered}
use Rattle.lua_value.proofs.KeyOrder.{key_cmp-equal}
use Rattle.lua_value.proofs.Puts.{IsBeforeAll-equal, IsOrdered-put, value_at-before, value_at-put_key, value_at-put_other}
use Rattle.lua_scope.specs.Globals.{without, with_global}

-- keys that differ do not compare as equal
pub is_eq-other : (a b : Key) → a ≢ b → is_eq (key_cmp a b) ≡ false
is_eq-other a b ne = by_cases (key_cmp a b) refl
  where
    by_cases : (o : Ordering) → key_cmp a b ≡ o → is_eq o ≡ false
    by_cases Less e = refl
    by_cases Equal e = absurd (ne (key_cmp-equal a b e))
    by_cases Greater e = refl

pub value_at-past : (key first : Key) (value : Datum) (rest : Pairs) → is_eq (key_cmp key first) ≡ false → value_at key (with_pair first value rest) ≡ value_at key rest
value_at-past key first value rest e = rw e refl

pub without-past : (key first : Key) (value : Datum) (rest : Pairs) → is_eq (key_cmp key first) ≡ false → without key (with_pair first value rest) ≡ with_pair first value (without key rest)
without-past key first value rest e = rw e refl

pub without-first : (key first : Key) (value : Datum) (rest : Pairs) → key_cmp key first ≡ Equal → without key (with_pair first value rest) ≡ rest
without-first key first value rest e = rw e refl

pub without-before : (key : Key) (ps : Pairs) → IsBeforeAll key (keys ps) → without key ps ≡ ps
without-before key no_pairs h = refl
without-before key (with_pair first value rest) h =
    let less = h.0 in
    let past : is_eq (key_cmp key first) ≡ false = rw less refl in
    without-past key first value rest past ∙ ap (with_pair first value) (without-before key rest h.1)

pub keys-without : (before key : Key) (ps : Pairs) → IsBeforeAll before (keys ps) → IsBeforeAll before (keys (without key ps))
keys-without before key no_pairs h = tt
keys-without before key (with_pair first value rest) h =
    elim (is_eq (key_cmp key first)) as (λ b. IsBeforeAll before (keys (cond b rest (with_pair first value (without key rest))))) [
      | true ↦ h.1
      | false ↦ (h.0, keys-without before key rest h.1)
    ]

-- an ordered list stays so
pub IsOrdered-without : (key : Key) (ps : Pairs) → IsOrdered ps → IsOrdered (without key ps)
IsOrdered-without key no_pairs h = tt
IsOrdered-without key (with_pair first value rest) h =
    elim (is_eq (key_cmp key first)) as (λ b. IsOrdered (cond b rest (with_pair first value (without key rest)))) [
      | true ↦ h.4
      | false ↦ (keys-without first key rest h.0, h.1, h.2, h.3, IsOrdered-without key rest h.4)
    ]

pub IsOrdered-with_global : (name : List ℕ) (value : Datum) (ps : Pairs) → IsServed value → IsOrdered ps → IsOrdered (with_global name value ps)
IsOrdered-with_global name nil ps served h = IsOrdered-without (Text name) ps h
IsOrdered-with_global name value ps served h = IsOrdered-put (Text name) value ps tt (λ e. cc) served h

-- the key that was taken away has no value
pub value_at-without_key : (key : Key) (ps : Pairs) → IsOrdered ps → value_at key (without key ps) ≡ None
value_at-without_key key no_pairs h = refl
value_at-without_key key (with_pair first value rest) h =
    by_cases (value_at-without_key key rest h.4) (key_cmp key first) refl
  where
    apart : value_at key (without key rest) ≡ None → is_eq (key_cmp key first) ≡ false → value_at key (without key (with_pair first value rest)) ≡ None
    apart later past =
        ap (value_at key) (without-past key first value rest past)
        ∙ value_at-past key first value (without key rest) past ∙ later

    by_cases : value_at key (without key rest) ≡ None → (o : Ordering) → key_cmp key first ≡ o → value_at key (without key (with_pair first value rest)) ≡ None
    by_cases later Less e = apart later (ap is_eq e)
    by_cases later Equal e =
        ap (value_at key) (without-first key first value rest e)
        ∙ value_at-before key rest (IsBeforeAll-equal key first (keys rest) e h.0)
    by_cases later Greater e = apart later (ap is_eq e)

-- every other key has what it had before
pub value_at-without_other : (q key : Key) (ps : Pairs) → q ≢ key → value_at q (without key ps) ≡ value_at q ps
value_at-without_other q key no_pairs ne = refl
value_at-without_other q key (with_pair first value rest) ne =
    by_cases (value_at-without_other q key rest ne) (key_cmp key first) refl
  where
    apart : value_at q (without key rest) ≡ value_at q rest → is_eq (key_cmp key first) ≡ false → value_at q (without key (with_pair first value rest)) ≡ value_at q (with_pair first value rest)
    apart later past =
        ap (value_at q) (without-past key first value rest past)
        ∙ ap (λ o. cond (is_eq (key_cmp q first)) (Some value) o) later

    by_cases : value_at q (without key rest) ≡ value_at q rest → (o : Ordering) → key_cmp key first ≡ o → value_at q (without key (with_pair first value rest)) ≡ value_at q (with_pair first value rest)
    by_cases later Less e = apart later (ap is_eq e)
    by_cases later Equal e =
        let same : key ≡ first = key_cmp-equal key first e in
        ap (value_at q) (without-first key first value rest e)
        ∙ sym (value_at-past q first value rest (is_eq-other q first (λ f. ne (f ∙ sym same))))
    by_cases later Greater e = apart later (ap is_eq e)

-- the global that was set has that value
pub value_at-with_global_name : (name : List ℕ) (value : Datum) (ps : Pairs) → value ≢ nil → value_at (Text name) (with_global name value ps) ≡ Some value
value_at-with_global_name name nil ps h = absurd (h refl)
value_at-with_global_name name value ps h = value_at-put_key (Text name) value ps

-- every other key has what it had before
pub value_at-with_global_other : (q : Key) (name : List ℕ) (value : Datum) (ps : Pairs) → q ≢ Text name → value_at q (with_global name value ps) ≡ value_at q ps
value_at-with_global_other q name nil ps h = value_at-without_other q (Text name) ps h
value_at-with_global_other q name value ps h = value_at-put_other q (Text name) value ps h
