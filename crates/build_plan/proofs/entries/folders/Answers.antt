use Rattle.std.proofs.Common.{◌∷◌, [], ◌++◌, map, ap, sym, ◌∙◌, ◌≤◌, arith}
use Rattle.std.proofs.lemmas.List.{map-append}
use Rattle.std.proofs.lemmas.Result.{err_from_is_err_and}
use Rattle.lua_value.specs.Pairs.{count}
use Rattle.build_targets.specs.Meanings.{source}
use Rattle.build_plan.specs.Plans.{folder_blame}
use Rattle.build_plan.specs.Steps.{texts_in}
use Rattle.build_plan.proofs.Firsts.{stays_none, take_one_more}
use Rattle.build_plan.proofs.Meant.{whole_named, whole_sources}
use Rattle.build_plan.proofs.Stops.{folder_stops}
use Rattle.build_plan.proofs.entries.folders.Goals as goal

pub returns-in_err-folder_at : goal.returns-in_err-folder_at
returns-in_err-folder_at c =
    let p = err_from_is_err_and c.from_residual.result c.from_residual.ensures.1 in
    rw (p.1, p.2) (folder_stops c.args.rockspec.now (texts_in c.args.table.now) c.loop-at.at _ c.in_err-folder_at.ensures c.loop-at.invariant.unblamed)

pub loop-at-preserved : goal.loop-at-preserved
loop-at-preserved c =
    let named = c.in_ok-folder_at.ensures in
    let texts = texts_in c.args.table.now in
    record {
      so_far = c.in_ok-push.ensures.items ∙ (λ i. c.loop-at.invariant.so_far i ++ named.2 i ∷ [])
          ∙ sym (ap (map source) (take_one_more texts c.loop-at.at named.0 named.1) ∙ map-append source _ (named.0 ∷ []));
      unblamed = stays_none (folder_blame c.args.rockspec.now) texts c.loop-at.at named.0 named.1 c.loop-at.invariant.unblamed named.3;
    }

pub returns : goal.returns
returns c =
    let past : count c.args.table.now ≤ c.loop-at.at = omega (arith, c.len-at-end.ensures) in
    (whole_sources c.args.table.now c.loop-at.at past source _ c.loop-at.invariant.so_far, whole_named c.args.table.now c.loop-at.at past (folder_blame c.args.rockspec.now) c.loop-at.invariant.unblamed)
