-- What is left of a table's pairs at a place.
use Rattle.std.proofs.Common.{◌≡◌, ℕ, zero, suc, ◌+◌, ◌<◌, ◌≤◌, Option, Some, None, option_map, refl, sym, ap, arith, add-one}
use Rattle.std.specs.List.{slice_get}
use Rattle.std.specs.Option.{IsSome}
use Rattle.lua_value.specs.declared.key.Key.{Key}
use Rattle.lua_value.specs.Depth.{value_depth, depth}
use Rattle.lua_value.specs.Pairs.{Datum, Pairs, no_pairs, with_pair, count, listed}

-- the pairs from a place on
abbrev pub left : ℕ → Pairs → Pairs
left zero ps = ps
left (suc i) no_pairs = no_pairs
left (suc i) (with_pair key value rest) = left i rest

-- they begin with the pair there
pub left-entry : (ps : Pairs) (i : ℕ) (x : Key × Datum) → slice_get (listed ps) i ≡ Some x → left i ps ≡ with_pair x.0 x.1 (left (i + 1) ps)
left-entry ps i x at = rw add-one (by_suc ps i x at)
  where
    by_suc : (ps : Pairs) (i : ℕ) (x : Key × Datum) → slice_get (listed ps) i ≡ Some x → left i ps ≡ with_pair x.0 x.1 (left (suc i) ps)
    by_suc no_pairs i x at = cc
    by_suc (with_pair key value rest) zero x at = let same : (key, value) ≡ x = cc in ap (λ (p : Key × Datum). with_pair p.0 p.1 rest) same
    by_suc (with_pair key value rest) (suc i) x at = by_suc rest i x at

-- and at the end there are none
pub left-end : (ps : Pairs) (i : ℕ) → count ps ≤ i → left i ps ≡ no_pairs
left-end no_pairs zero beyond = refl
left-end no_pairs (suc i) beyond = refl
left-end (with_pair key value rest) zero beyond = absurd (omega arith)
left-end (with_pair key value rest) (suc i) beyond = left-end rest i (omega arith)

-- a value within a table is no deeper than the table
pub depth_at : (ps : Pairs) (i : ℕ) (x : Key × Datum) → slice_get (listed ps) i ≡ Some x → value_depth x.1 ≤ depth ps
depth_at no_pairs i x at = cc
depth_at (with_pair key value rest) zero x at = let same : (key, value) ≡ x = cc in rw (← same) (omega arith)
depth_at (with_pair key value rest) (suc i) x at = omega (arith, depth_at rest i x at)

-- a place at which there is no pair is behind all
nothing_at : (ps : Pairs) (i : ℕ) → slice_get (listed ps) i ≡ None → count ps ≤ i
nothing_at no_pairs i at = omega arith
nothing_at (with_pair key value rest) zero at = cc
nothing_at (with_pair key value rest) (suc i) at = omega (arith, nothing_at rest i at)

-- at each place below the number of pairs there is one
pub entry_is : {T : Type 0} (f : T → Key × Datum) (found : Option T) (ps : Pairs) (i : ℕ) → i < count ps → option_map f found ≡ slice_get (listed ps) i → IsSome found
entry_is f (Some x) ps i within e = refl
entry_is f None ps i within e = let beyond = nothing_at ps i (sym e) in absurd (omega arith)
