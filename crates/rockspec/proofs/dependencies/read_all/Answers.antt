use Rattle.std.proofs.Common.{ℕ, ◌∙◌, ap, inl, inr, ⊎_elim, min, ◌+◌}
use Rattle.rockspec.specs.Bad.{told_bad}
use Rattle.rockspec.proofs.Several.{grows, stops}
use Rattle.rockspec.proofs.dependencies.read_all.Goals as goal

pub loop-text-preserved : goal.loop-text-preserved
loop-text-preserved c =
    grows c.args.texts.now c.loop-text.read c.push.new.self c.loop-text.text-index
    (record { name = c.in-Ok.dependency.name; constraints = c.in-Ok.dependency.constraints })
    c.loop-text-test.true c.loop-text.invariant c.in-Ok.ensures.read c.in_ok-push-in-Ok.ensures.ok

pub returns-in-Err-clause-fault : goal.returns-in-Err-clause-fault
returns-in-Err-clause-fault c =
    let told = c.bad_dependency.ensures ∙ ap (λ (n : ℕ). told_bad n c.in-Err.fault)
    (c.saturating_add.ensures ∙ ap (λ (n : ℕ). min (c.args.before + n) 18446744073709551615) c.len.ensures) in
    ⊎_elim
    (λ none. inl (c.bad_dependency.ensures ∙ ap (told_bad c.saturating_add.result) none))
    (λ has. inr (stops c.args.texts.now c.loop-text.read c.args.before c.loop-text.text-index c.in-Err.fault c.bad_dependency.result c.loop-text-test.true c.loop-text.invariant has told))
    c.in-Err.ensures.fault
