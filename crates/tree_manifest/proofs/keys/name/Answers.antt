use Rattle.std.proofs.Common.{◌≡◌, false, ap, sym, ◌∙◌, rules, Some}
use Rattle.rocks_text.specs.Texts.{is_name, lowered}
use Rattle.tree_manifest.proofs.Texts.{lowered_name, name_utf8}
use Rattle.tree_manifest.proofs.keys.name.Goals as goal

pub returns-in_default-clause-known : goal.returns-in_default-clause-known
returns-in_default-clause-known c is = absurd (c.in_default.ensures.cases.0 (name_utf8 c.args.bytes.now is))

pub returns-in-Ok-from_text-clause-known : goal.returns-in-Ok-from_text-clause-known
returns-in-Ok-from_text-clause-known c is =
    ap Some (c.in-Ok-from_text.ensures.value ∙ ap lowered c.in-Ok.ensures.cases.0 ∙ lowered_name c.args.bytes.now is)

pub returns-in-Err-BadName-clause-known : goal.returns-in-Err-BadName-clause-known
returns-in-Err-BadName-clause-known c is =
    let bytes = c.args.bytes.now in
    let bad : is_name (lowered c.in-Ok.text.now) ≡ false = search rules in
    let same : lowered c.in-Ok.text.now ≡ bytes = ap lowered c.in-Ok.ensures.cases.0 ∙ lowered_name bytes is in
    absurd (let clash = sym bad ∙ ap is_name same ∙ is in cc clash)
