-- The values at keys are those at places.
use Rattle.std.proofs.Common.{◌≡◌, ℕ, zero, suc, ◌<◌, Bool, cond, Some, refl, sym, ap, ◌∙◌, subst, arith}
use Rattle.std.specs.List.{slice_get}
use Rattle.std.specs.Ordering.{is_eq}
use Rattle.std.specs.declared.cmp.Ordering.{Ordering}
use Rattle.std.specs.declared.cmp.Ordering.TheVariants.{Less, Equal, Greater}
use Rattle.lua_value.specs.declared.key.Key.{Key}
use Rattle.lua_value.specs.Key.{key_cmp}
use Rattle.lua_value.specs.Pairs.{Datum, Pairs, no_pairs, with_pair, count, listed, keys, value_at}
use Rattle.lua_value.specs.Ordered.{IsBeforeAll, IsOrdered}
use Rattle.lua_value.proofs.KeyOrder.{key_cmp-equal, key_cmp-itself, less_turned}

-- where a key's value stands
pub record IsListedAt (ps : Pairs) (key : Key) (value : Datum) (i : ℕ) : Type 0 where
  pub there : slice_get (listed ps) i ≡ Some (key, value)
  pub within : i < count ps

pub place_of : (ps : Pairs) (key : Key) (value : Datum) → value_at key ps ≡ Some value → (i : ℕ)
    × IsListedAt ps key value i
place_of no_pairs key value e = cc
place_of (with_pair first old rest) key value e = by_cases (key_cmp key first) refl (place_of rest key value)
  where
    later : is_eq (key_cmp key first) ≡ Bool.false →
        (value_at key rest ≡ Some value → (i : ℕ) × IsListedAt rest key value i) → (i : ℕ)
        × IsListedAt (with_pair first old rest) key value i
    later other find =
        let found = find (ap (λ b. cond b (Some old) (value_at key rest)) (sym other) ∙ e) in
        (suc found.0, record { there = found.1.there; within = omega (arith, found.1.within) })

    by_cases : (o : Ordering) → key_cmp key first ≡ o →
        (value_at key rest ≡ Some value → (i : ℕ) × IsListedAt rest key value i) → (i : ℕ)
        × IsListedAt (with_pair first old rest) key value i
    by_cases Less o find = later (ap is_eq o) find
    by_cases Greater o find = later (ap is_eq o) find
    by_cases Equal o find =
        let same : key ≡ first = key_cmp-equal key first o in
        let there : Some old ≡ Some value = ap (λ p. cond (is_eq p) (Some old) (value_at key rest)) (sym o) ∙ e in
        let value_is : old ≡ value = cc in
        (zero, record { there = (λ i. Some (sym same i, value_is i)); within = omega arith })

key_of : (p q : Key × Datum) → Some p ≡ Some q → p.0 ≡ q.0
key_of p q e = let pair : p ≡ q = cc in ap (λ (r : Key × Datum). r.0) pair

datum_of : (p q : Key × Datum) → Some p ≡ Some q → p.1 ≡ q.1
datum_of p q e = let pair : p ≡ q = cc in ap (λ (r : Key × Datum). r.1) pair

key_within : (first : Key) (ps : Pairs) (i : ℕ) (key : Key) (value : Datum) → IsBeforeAll first (keys ps) →
    slice_get (listed ps) i ≡ Some (key, value) → key_cmp first key ≡ Less
key_within first no_pairs i key value h at = cc
key_within first (with_pair next old rest) zero key value h at = let same = key_of (next, old) (key, value) at in
    subst (λ k. key_cmp first k ≡ Less) same h.0
key_within first (with_pair next old rest) (suc i) key value h at = key_within first rest i key value h.1 at

pub value_of : (ps : Pairs) (i : ℕ) (key : Key) (value : Datum) → IsOrdered ps →
    slice_get (listed ps) i ≡ Some (key, value) → value_at key ps ≡ Some value
value_of no_pairs i key value h at = cc
value_of (with_pair first old rest) zero key value h at =
    let same = key_of (first, old) (key, value) at in
    let value_is = datum_of (first, old) (key, value) at in
    ap (λ o. cond (is_eq o) (Some old) (value_at key rest)) (ap (key_cmp key) same ∙ key_cmp-itself key)
    ∙ ap Some value_is
value_of (with_pair first old rest) (suc i) key value h at =
    let less = key_within first rest i key value h.0 at in
    ap (λ o. cond (is_eq o) (Some old) (value_at key rest)) (less_turned first key less)
    ∙ value_of rest i key value h.4 at

-- a smaller key stands at an earlier place
pub place_rises : (ps : Pairs) (i j : ℕ) (key other : Key) (value found : Datum) → IsOrdered ps →
    slice_get (listed ps) i ≡ Some (key, value) → slice_get (listed ps) j ≡ Some (other, found) →
    key_cmp other key ≡ Less → j < i
place_rises no_pairs i j key other value found h at there less = cc
place_rises (with_pair first old rest) zero zero key other value found h at there less =
    let same = key_of (first, old) (key, value) at in
    let other_same = key_of (first, old) (other, found) there in
    let tie : key_cmp other key ≡ Equal = subst (λ k. key_cmp other k ≡ Equal) (sym other_same ∙ same)
    (key_cmp-itself other) in
    cc
place_rises (with_pair first old rest) zero (suc j) key other value found h at there less =
    let same = key_of (first, old) (key, value) at in
    let after : key_cmp key other ≡ Less = subst (λ k. key_cmp k other ≡ Less) same
    (key_within first rest j other found h.0 there) in
    let turned : key_cmp other key ≡ Greater = less_turned key other after in
    cc
place_rises (with_pair first old rest) (suc i) zero key other value found h at there less = omega arith
place_rises (with_pair first old rest) (suc i) (suc j) key other value found h at there less =
    omega (arith, place_rises rest i j key other value found h.4 at there less)
