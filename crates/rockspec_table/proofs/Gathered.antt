-- Tables that are gathered entry by entry, in key order.
use Rattle.std.proofs.Common.{◌≡◌, refl, sym, ap, ◌∙◌, subst}
use Rattle.std.specs.declared.cmp.Ordering.TheVariants.{Less}
use Rattle.lua_value.specs.declared.key.Key.{Key}
use Rattle.lua_value.specs.Key.{key_cmp}
use Rattle.lua_value.specs.Pairs.{Datum, Pairs, no_pairs, with_pair, keys, put}
use Rattle.lua_value.specs.Ordered.{IsBeforeAll, IsOrdered}
use Rattle.lua_value.proofs.Puts.{put-after}

-- the pairs with others put in, one after another
abbrev pub gathered : Pairs → Pairs → Pairs
gathered ps no_pairs = ps
gathered ps (with_pair key value rest) = gathered (put key value ps) rest

abbrev joined : Pairs → Pairs → Pairs
joined no_pairs qs = qs
joined (with_pair key value ps) qs = with_pair key value (joined ps qs)

joined-none : (ps : Pairs) → joined ps no_pairs ≡ ps
joined-none no_pairs = refl
joined-none (with_pair key value ps) = ap (with_pair key value) (joined-none ps)

joined-last : (ps : Pairs) (key : Key) (value : Datum) (rest : Pairs) →
    joined (joined ps (with_pair key value no_pairs)) rest ≡ joined ps (with_pair key value rest)
joined-last no_pairs key value rest = refl
joined-last (with_pair first old ps) key value rest = ap (with_pair first old) (joined-last ps key value rest)

before_last : (first : Key) (ps : Pairs) (key : Key) (value : Datum) (rest : Pairs) →
    IsBeforeAll first (keys (joined ps (with_pair key value rest))) → key_cmp first key ≡ Less
before_last first no_pairs key value rest h = h.0
before_last first (with_pair next old ps) key value rest h = before_last first ps key value rest h.1

-- a key behind all others is put behind them
put-last : (ps : Pairs) (key : Key) (value : Datum) (rest : Pairs) → IsOrdered (joined ps (with_pair key value rest)) →
    put key value ps ≡ joined ps (with_pair key value no_pairs)
put-last no_pairs key value rest h = refl
put-last (with_pair first old ps) key value rest h =
    put-after key value first old ps (before_last first ps key value rest h.0)
    ∙ ap (with_pair first old) (put-last ps key value rest h.4)

gathered-joined : (ps qs : Pairs) → IsOrdered (joined ps qs) → gathered ps qs ≡ joined ps qs
gathered-joined ps no_pairs h = sym (joined-none ps)
gathered-joined ps (with_pair key value rest) h =
    let put_in = put-last ps key value rest h in
    ap (λ others. gathered others rest) put_in
    ∙ gathered-joined (joined ps (with_pair key value no_pairs)) rest
    (subst IsOrdered (sym (joined-last ps key value rest)) h)
    ∙ joined-last ps key value rest

pub gathered-nothing : (qs : Pairs) → IsOrdered qs → gathered no_pairs qs ≡ qs
gathered-nothing qs h = gathered-joined no_pairs qs h
