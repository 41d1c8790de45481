use Rattle.std.proofs.Common.{List, sym, subst, ◌∙◌}
use Rattle.std.specs.Prelude.{ℕ}
use Rattle.build_plan.specs.Plans.{key_bytes, IsFirstPlanFault}
use Rattle.build_plan.specs.declared.fault.PlanFault.TheVariants.{NeedsCompiler}
use Rattle.build_plan.proofs.Early.{compiled_told, none_before_five, tested}
use Rattle.build_plan.proofs.checks.check_build.Goals as goal

pub returns-in-Some : goal.returns-in-Some
returns-in-Some c rockspec =
    let passed = tested c.args.fields.now c.args.build.now _ c.is_served.result _ _ _ c.in_ok-told.ensures c.is_served.ensures c.if-not-is_served.false c.in_ok-lacks_modules.ensures c.if-branch.false
    c.in_ok-has_entries.ensures c.if-branch-2.false c.in_ok-has_entries-2.ensures c.if-branch-3.false in
    subst (λ (name : List ℕ). IsFirstPlanFault rockspec c.args.fields.now (NeedsCompiler name)) (sym (c.in_ok-name.ensures ∙ c.key_bytes.ensures))
    (compiled_told c.args.fields.now c.args.build.now c.requires.build passed c.args.modules.now (key_bytes c.in-Some.key.now) c.requires.modules (sym c.in-Some.ensures) rockspec)

pub returns : goal.returns
returns c =
    let passed = tested c.args.fields.now c.args.build.now _ c.is_served.result _ _ _ c.in_ok-told.ensures c.is_served.ensures c.if-not-is_served.false c.in_ok-lacks_modules.ensures c.if-branch.false
    c.in_ok-has_entries.ensures c.if-branch-2.false c.in_ok-has_entries-2.ensures c.if-branch-3.false in
    none_before_five c.args.fields.now c.args.build.now c.requires.build passed c.args.modules.now c.requires.modules (sym c.in_default.ensures)
