use Rattle.std.proofs.Common.{ℕ, List, subst, ◌∙◌}
use Rattle.twofold_paths.specs.Places.{IsTwofoldPath}
use Rattle.twofold_paths.specs.declared.place.Place.{Place}
use Rattle.build_plan.specs.Steps.{places_of}
use Rattle.std.proofs.lemmas.Result.{err_from_is_err_and}
use Rattle.build_plan.proofs.Planned.{apart_stops, folders_stop, planned, targets_stop}
use Rattle.build_plan.proofs.plan.recipe.Goals as goal

pub returns-in_err-targets : goal.returns-in_err-targets
returns-in_err-targets c =
    let p = err_from_is_err_and c.from_residual-in_err-targets.result c.from_residual-in_err-targets.ensures.1 in
    rw (p.1, p.2) (targets_stop c.args.rockspec.now c.args.fields.now c.in_ok-build.build.now c.in_ok-modules.modules.now c.in_ok-install.install.now
    c.in_ok-build.ensures.value c.in_ok-modules.ensures.value c.in_ok-install.ensures.value (c.in_ok-check_build.ensures c.args.rockspec.now) _ c.in_err-targets.ensures)

pub returns-in_err-folders : goal.returns-in_err-folders
returns-in_err-folders c =
    let p = err_from_is_err_and c.from_residual-in_err-folders.result c.from_residual-in_err-folders.ensures.1 in
    rw (p.1, p.2) (folders_stop c.args.rockspec.now c.args.fields.now c.in_ok-build.build.now c.in_ok-modules.modules.now c.in_ok-install.install.now
    c.in_ok-build.ensures.value c.in_ok-modules.ensures.value c.in_ok-install.ensures.value (c.in_ok-check_build.ensures c.args.rockspec.now)
    c.in_ok-named.named.now c.in_ok-targets.ensures.1 c.in_ok-named.ensures.value _ c.in_err-folders.ensures)

pub returns-in_err-check_apart : goal.returns-in_err-check_apart
returns-in_err-check_apart c =
    let p = err_from_is_err_and c.from_residual-in_err-check_apart.result c.from_residual-in_err-check_apart.ensures.1 in
    rw (p.1, p.2) (apart_stops c.args.rockspec.now c.args.fields.now c.in_ok-build.build.now c.in_ok-modules.modules.now c.in_ok-install.install.now
    c.in_ok-build.ensures.value c.in_ok-modules.ensures.value c.in_ok-install.ensures.value (c.in_ok-check_build.ensures c.args.rockspec.now)
    c.in_ok-named.named.now c.in_ok-targets.ensures.1 c.in_ok-named.ensures.value c.deref.result.now c.deref-2.result.now (c.deref.ensures.value ∙ c.in_ok-targets.ensures.0) (c.deref-2.ensures.value ∙ c.in_ok-folders.ensures.0) c.in_ok-folders.ensures.1 _ c.in_err-check_apart.ensures)

pub returns : goal.returns
returns c =
    planned c.args.rockspec.now c.args.fields.now c.in_ok-build.build.now c.in_ok-modules.modules.now c.in_ok-install.install.now
    c.in_ok-build.ensures.value c.in_ok-modules.ensures.value c.in_ok-install.ensures.value (c.in_ok-check_build.ensures c.args.rockspec.now)
    c.in_ok-named.named.now c.in_ok-targets.ensures.1 c.in_ok-named.ensures.value c.in_ok-targets.targets.items c.in_ok-folders.folders.items c.in_ok-targets.ensures.0 c.in_ok-folders.ensures.0 c.in_ok-folders.ensures.1
    (subst (λ (l : List Place). (path : List ℕ) → IsTwofoldPath l path → ⊥) (λ i. places_of (c.deref.ensures.value i) (c.deref-2.ensures.value i)) c.in_ok-check_apart.ensures) c.in_ok-in_order.field-0 c.in_ok-in_order.ensures
