use Rattle.std.proofs.Common.{◌≡◌, true, subst, ◌∙◌}
use Rattle.std.proofs.lemmas.Result.{IfOk-weaker}
use Rattle.build_targets.specs.Meanings.{is_path}
use Rattle.build_targets.proofs.PathBytes.{conf_found, found_path}
use Rattle.build_targets.proofs.places.conf_path.Goals as goal

pub returns-in-Some : goal.returns-in-Some
returns-in-Some c =
    let bytes = c.args.bytes.now in
    let good = subst (λ b. is_path b ≡ true) (c.deref.ensures.value ∙ c.in_ok-joined.ensures)
    (found_path c.deref.result.now c.in-Some.field-0 c.in_ok-path.field-0 c.in_ok-path.ensures c.in-Some.is) in
    IfOk-weaker c.path-in-Some.result _ _ (λ found is. conf_found bytes found good is) c.path-in-Some.ensures
