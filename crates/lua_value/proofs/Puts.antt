-- Look-ups in a list of pairs, and what putting a key in does to it.
use Rattle.std.proofs.Common.{◌≡◌, ◌≢◌, Bool, true, false, cond, List, [], ◌∷◌, Some, None, Option, IfSome, refl, sym, ap, ◌∙◌, subst}
use Rattle.std.specs.declared.cmp.Ordering.{Ordering}
use Rattle.std.specs.declared.cmp.Ordering.TheVariants.{Less, Equal, Greater}
use Rattle.std.specs.Ordering.{is_eq, match_ordering}
use Rattle.lua_value.specs.declared.key.Key.{Key}
use Rattle.lua_value.specs.Key.{key_cmp, IsKey}
use Rattle.lua_value.specs.Pairs.{Datum, Pairs, nil, no_pairs, with_pair, keys, value_at, put}
use Rattle.lua_value.specs.Ordered.{IsBeforeAll, IsServed, IsOrdered}
use Rattle.lua_value.proofs.KeyOrder.{key_cmp-equal, key_cmp-itself, key_cmp-trans, less_turned, greater_turned}

-- a choice by an order, case by case
pub by_order : (P : Pairs → Type 0) (o : Ordering) (a b c : Pairs) → (o ≡ Less → P a) → (o ≡ Equal → P b) → (o ≡ Greater → P c) → P (match_ordering o a b c)
by_order P Less a b c p q r = p refl
by_order P Equal a b c p q r = q refl
by_order P Greater a b c p q r = r refl

pub IsBeforeAll-trans : (a b : Key) (ks : List Key) → key_cmp a b ≡ Less → IsBeforeAll b ks → IsBeforeAll a ks
IsBeforeAll-trans a b [] e h = tt
IsBeforeAll-trans a b (k ∷ ks) e h = (key_cmp-trans a b k e h.0, IsBeforeAll-trans a b ks e h.1)

pub IsBeforeAll-equal : (a b : Key) (ks : List Key) → key_cmp a b ≡ Equal → IsBeforeAll b ks → IsBeforeAll a ks
IsBeforeAll-equal a b ks e h = subst (λ k. IsBeforeAll k ks) (sym (key_cmp-equal a b e)) h

pub value_at-before : (key : Key) (ps : Pairs) → IsBeforeAll key (keys ps) → value_at key ps ≡ None
value_at-before key no_pairs h = refl
value_at-before key (with_pair first old rest) h = rw (h.0) (value_at-before key rest h.1)

pub put-before : (key : Key) (value : Datum) (ps : Pairs) → IsBeforeAll key (keys ps) → put key value ps ≡ with_pair key value ps
put-before key value no_pairs h = refl
put-before key value (with_pair first old rest) h = rw (h.0)

pub put-after : (key : Key) (value : Datum) (first : Key) (old : Datum) (rest : Pairs) → key_cmp first key ≡ Less → put key value (with_pair first old rest) ≡ with_pair first old (put key value rest)
put-after key value first old rest e = rw (less_turned first key e)

pub put-over : (key : Key) (value : Datum) (first : Key) (old : Datum) (rest : Pairs) → key_cmp key first ≡ Equal → put key value (with_pair first old rest) ≡ with_pair key value rest
put-over key value first old rest e = rw e

pub keys-put : (before key : Key) (value : Datum) (ps : Pairs) → key_cmp before key ≡ Less → IsBeforeAll before (keys ps) → IsBeforeAll before (keys (put key value ps))
keys-put before key value no_pairs e h = (e, tt)
keys-put before key value (with_pair first old rest) e h =
    by_order (λ ps. IsBeforeAll before (keys ps)) (key_cmp key first) _ _ _ (λ _. (e, h)) (λ _. (e, h.1)) (λ _. (h.0, keys-put before key value rest e h.1))

pub IsOrdered-put : (key : Key) (value : Datum) (ps : Pairs) → IsKey key → value ≢ nil → IsServed value → IsOrdered ps → IsOrdered (put key value ps)
IsOrdered-put key value no_pairs k n v h = (tt, k, n, v, tt)
IsOrdered-put key value (with_pair first old rest) k n v h =
    by_order IsOrdered (key_cmp key first) _ _ _
    (λ e. ((e, IsBeforeAll-trans key first (keys rest) e h.0), k, n, v, h))
    (λ e. (IsBeforeAll-equal key first (keys rest) e h.0, k, n, v, h.4))
    (λ e. (keys-put first key value rest (greater_turned key first e) h.0, h.1, h.2, h.3, IsOrdered-put key value rest k n v h.4))

-- the value that was put, and every other as before
pub value_at-put : (q key : Key) (value : Datum) (ps : Pairs) → value_at q (put key value ps) ≡ cond (is_eq (key_cmp q key)) (Some value) (value_at q ps)
value_at-put q key value no_pairs = refl
value_at-put q key value (with_pair first old rest) =
    by_order (λ ps. value_at q ps ≡ cond (is_eq (key_cmp q key)) (Some value) (value_at q (with_pair first old rest))) (key_cmp key first) _ _ _
    (λ _. refl)
    (λ e. subst (λ k. cond (is_eq (key_cmp q key)) (Some value) (value_at q rest) ≡ cond (is_eq (key_cmp q key)) (Some value) (cond (is_eq (key_cmp q k)) (Some old) (value_at q rest))) (key_cmp-equal key first e) (twice (is_eq (key_cmp q key)) _ _ _))
    (λ e. ap (λ o. cond (is_eq (key_cmp q first)) (Some old) o) (value_at-put q key value rest) ∙ apart (key_cmp q key) (key_cmp q first) _ _ _ (λ a b. not_both q key first e a b))
  where
    twice : (b : Bool) (x y z : Option Datum) → cond b x z ≡ cond b x (cond b y z)
    twice true x y z = refl
    twice false x y z = refl

    apart : (o p : Ordering) (x y z : Option Datum) → (o ≡ Equal → p ≡ Equal → ⊥) → cond (is_eq p) y (cond (is_eq o) x z) ≡ cond (is_eq o) x (cond (is_eq p) y z)
    apart Less p x y z h = refl
    apart Greater p x y z h = refl
    apart Equal Less x y z h = refl
    apart Equal Greater x y z h = refl
    apart Equal Equal x y z h = absurd (h refl refl)

    not_both : (q k p : Key) → key_cmp k p ≡ Greater → key_cmp q k ≡ Equal → key_cmp q p ≡ Equal → ⊥
    not_both q k p e a b =
        let same : k ≡ p = sym (key_cmp-equal q k a) ∙ key_cmp-equal q p b in
        let itself : key_cmp k p ≡ Equal = subst (λ x. key_cmp k x ≡ Equal) same (key_cmp-itself k) in
        cc

pub value_at-put_key : (key : Key) (value : Datum) (ps : Pairs) → value_at key (put key value ps) ≡ Some value
value_at-put_key key value ps = let itself = key_cmp-itself key in value_at-put key key value ps ∙ rw itself refl

pub value_at-put_other : (q key : Key) (value : Datum) (ps : Pairs) → q ≢ key → value_at q (put key value ps) ≡ value_at q ps
value_at-put_other q key value ps h = value_at-put q key value ps ∙ by_cases (key_cmp q key) refl
  where
    by_cases : (o : Ordering) → key_cmp q key ≡ o → cond (is_eq o) (Some value) (value_at q ps) ≡ value_at q ps
    by_cases Less e = refl
    by_cases Equal e = absurd (h (key_cmp-equal q key e))
    by_cases Greater e = refl

-- a value that stands in an ordered list is no nil, and is served
pub value_at-served : (key : Key) (ps : Pairs) → IsOrdered ps → IfSome (value_at key ps) (λ value. (value ≢ nil) × IsServed value)
value_at-served key no_pairs h = tt
value_at-served key (with_pair first old rest) h =
    elim (is_eq (key_cmp key first)) as (λ b. IfSome (cond b (Some old) (value_at key rest)) (λ value. (value ≢ nil) × IsServed value)) [
      | true ↦ (h.2, h.3)
      | false ↦ value_at-served key rest h.4
    ]

-- putting in what is there changes nothing
pub put-same : (key : Key) (value : Datum) (ps : Pairs) → IsOrdered ps → value_at key ps ≡ Some value → put key value ps ≡ ps
put-same key value no_pairs h e = cc
put-same key value (with_pair first old rest) h e =
    by_cases (put-same key value rest h.4) (key_cmp key first) refl
  where
    by_cases : (value_at key rest ≡ Some value → put key value rest ≡ rest) → (o : Ordering) → key_cmp key first ≡ o → put key value (with_pair first old rest) ≡ with_pair first old rest
    by_cases same_rest Less less =
        let missing : value_at key (with_pair first old rest) ≡ None = value_at-before key (with_pair first old rest) (less, IsBeforeAll-trans key first (keys rest) less h.0) in
        cc
    by_cases same_rest Equal equal =
        let there : value_at key (with_pair first old rest) ≡ Some old = rw equal refl in
        let same : Some value ≡ Some old = sym e ∙ there in
        let value_same : value ≡ old = cc in
        let key_same : key ≡ first = key_cmp-equal key first equal in
        put-over key value first old rest equal ∙ (λ i. with_pair (key_same i) (value_same i) rest)
    by_cases same_rest Greater greater =
        let later : value_at key (with_pair first old rest) ≡ value_at key rest = rw greater refl in
        put-after key value first old rest (greater_turned key first greater) ∙ ap (with_pair first old) (same_rest (sym later ∙ e))
