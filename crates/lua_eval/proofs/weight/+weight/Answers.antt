use Rattle.std.proofs.Common.{◌≡◌, ◌+◌, ◌*◌, ◌<◌, ◌≤◌, ◌⊎◌, inl, inr, ℕ, ap, arith}
use Rattle.lua_value.specs.declared.key.Key.{Key}
use Rattle.lua_value.specs.Depth.{value_depth, depth}
use Rattle.lua_value.specs.Pairs.{Datum, Pairs, with_pair}
use Rattle.lua_value.specs.View.{datum}
use Rattle.lua_value.proofs.Left.{left, left-entry, left-end, depth_at}
use Rattle.lua_eval.specs.Weights.{key_weight, weight, pairs_weight}
use Rattle.lua_eval.proofs.weight.+weight.Goals as goal

pub left_after_entries-left_after_entry-requires : goal.left_after_entries-left_after_entry-requires
left_after_entries-left_after_entry-requires t c = (
  (let within : value_depth (datum c.entry_at.result.1.now) ≤ depth c.args.table.now = depth_at _ _ _ c.entry_at.ensures.entry in let falls : 4 * value_depth (datum c.entry_at.result.1.now) + 1 < t = omega arith in falls),
  c.entry_at.ensures.served,
)

-- too little is left for one entry, or it is too deep: so it is for all
exceeded : (ps : Pairs) (i levels rest all : ℕ) (x : Key × Datum) → left i ps ≡ with_pair x.0 x.1 (left (i + 1) ps) → value_depth x.1 ≤ depth ps → rest + pairs_weight ps ≡ all + pairs_weight (left i ps) → (rest < key_weight x.0 + weight x.1) ⊎ (levels < value_depth x.1) → (all < pairs_weight ps) ⊎ (levels < depth ps)
exceeded ps i levels rest all x begins within e (inl short) = let weighs = ap pairs_weight begins in inl (omega (arith, weighs))
exceeded ps i levels rest all x begins within e (inr deep) = inr (omega arith)

pub left_after_entries-returns-in_err-rest : goal.left_after_entries-returns-in_err-rest
left_after_entries-returns-in_err-rest t c =
    let ps : Pairs = c.args.table.now in
    let x : Key × Datum = (c.entry_at.result.0.now, datum c.entry_at.result.1.now) in
    let begins = left-entry ps c.loop-at.at x c.entry_at.ensures.entry in
    let within : value_depth x.1 ≤ depth ps = depth_at ps c.loop-at.at x c.entry_at.ensures.entry in
    rw (c.from_residual.ensures) (exceeded ps c.loop-at.at c.args.levels c.loop-at.rest c.args.left x begins within c.loop-at.invariant.weighed c.in_err-rest.ensures)

pub left_after_entries-loop-at-preserved : goal.left_after_entries-loop-at-preserved
left_after_entries-loop-at-preserved t c =
    let ps : Pairs = c.args.table.now in
    let x : Key × Datum = (c.entry_at.result.0.now, datum c.entry_at.result.1.now) in
    let begins = left-entry ps c.loop-at.at x c.entry_at.ensures.entry in
    let weighs = ap pairs_weight begins in
    let deep = ap depth begins in
    let taken = c.in_ok-rest.ensures in
    record {
      weighed = omega (arith, weighs, taken.0, c.loop-at.invariant.weighed);
      deep = omega (arith, deep, taken.1, c.loop-at.invariant.deep);
    }

pub left_after_entries-returns : goal.left_after_entries-returns
left_after_entries-returns t c =
    let ps : Pairs = c.args.table.now in
    let nothing = left-end ps c.loop-at.at (omega (arith, c.len-at-end.ensures)) in
    let weighs = ap pairs_weight nothing in
    let deep = ap depth nothing in
    (omega (arith, weighs, c.loop-at.invariant.weighed), omega (arith, deep, c.loop-at.invariant.deep))
