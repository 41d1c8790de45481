use Rattle.std.proofs.Common.{◌≤◌, arith}
use Rattle.std.proofs.lemmas.Result.{err_from_is_err_and}
use Rattle.lua_value.specs.Pairs.{count}
use Rattle.build_plan.specs.Entries.{entries_of}
use Rattle.build_plan.proofs.Meant.{more_pushed, more_unblamed, whole_targets, whole_unblamed}
use Rattle.build_plan.proofs.Stops.{target_stops}
use Rattle.build_plan.proofs.entries.add_targets.Goals as goal

pub returns-in_err-target_at : goal.returns-in_err-target_at
returns-in_err-target_at c =
    let p = err_from_is_err_and c.from_residual.result c.from_residual.ensures.1 in
    rw (p.1, p.2) (target_stops (entries_of c.args.listing c.args.table.now) c.loop-at.at _ c.in_err-target_at.ensures c.loop-at.invariant.unblamed)

pub loop-at-preserved : goal.loop-at-preserved
loop-at-preserved c =
    let means = c.in_ok-target_at.ensures in
    let entries = entries_of c.args.listing c.args.table.now in
    record {
      so_far = more_pushed entries c.loop-at.at means.0 means.1 c.in_ok-target_at.field-0 _ c.loop-at.targets.items _ means.2 c.in_ok-push.ensures.items c.loop-at.invariant.so_far;
      unblamed = more_unblamed entries c.loop-at.at means.0 means.1 c.in_ok-target_at.field-0 means.2 c.loop-at.invariant.unblamed;
    }

pub returns : goal.returns
returns c =
    let past : count c.args.table.now ≤ c.loop-at.at = omega (arith, c.len-at-end.ensures) in (
      whole_targets c.args.listing c.args.table.now c.loop-at.at past _ _ c.loop-at.invariant.so_far,
      whole_unblamed c.args.listing c.args.table.now c.loop-at.at past c.loop-at.invariant.unblamed,
    )
