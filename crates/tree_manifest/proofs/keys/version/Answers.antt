use Rattle.std.proofs.Common.{◌≡◌, ap, sym, ◌∙◌, subst, true}
use Rattle.std.specs.Prelude.{IfNone}
use Rattle.rocks_version.proofs.FaultLemmas.{none_if_version}
use Rattle.rocks_version.specs.Texts.{is_version}
use Rattle.rocks_version.specs.declared.fault.VersionFault.TheVariants.{BadVersion, NumberTooLong, NoMemory}
use Rattle.tree_manifest.proofs.Texts.{version_utf8}
use Rattle.tree_manifest.proofs.keys.version.Goals as goal

pub returns-in_default-clause-known : goal.returns-in_default-clause-known
returns-in_default-clause-known c is = absurd (c.in_default.ensures.cases.0 (version_utf8 c.args.bytes.now is))

pub returns-in-Err-BadVersion-clause-known : goal.returns-in-Err-BadVersion-clause-known
returns-in-Err-BadVersion-clause-known c is =
    let right : is_version c.in-Ok.text.now ≡ true = ap is_version c.in-Ok.ensures.cases.0 ∙ is in
    let memory : c.in-Err-BadVersion.field-0 ≡ NoMemory =
    subst (λ o. IfNone o (c.in-Err-BadVersion.field-0 ≡ NoMemory)) (none_if_version c.in-Ok.text.now right)
    c.in-Err-BadVersion.ensures.version in
    let clash : BadVersion c.in-Err-BadVersion.field-0-0 ≡ NoMemory = sym c.in-Err-BadVersion.field-0-is ∙ memory in
    absurd (cc clash)

pub returns-in-Err-NumberTooLong-clause-known : goal.returns-in-Err-NumberTooLong-clause-known
returns-in-Err-NumberTooLong-clause-known c is =
    let right : is_version c.in-Ok.text.now ≡ true = ap is_version c.in-Ok.ensures.cases.0 ∙ is in
    let memory : c.in-Err-NumberTooLong.field-0 ≡ NoMemory =
    subst (λ o. IfNone o (c.in-Err-NumberTooLong.field-0 ≡ NoMemory)) (none_if_version c.in-Ok.text.now right)
    c.in-Err-NumberTooLong.ensures.version in
    let clash : NumberTooLong c.in-Err-NumberTooLong.field-0-0 ≡ NoMemory =
    sym c.in-Err-NumberTooLong.field-0-is ∙ memory in
    absurd (cc clash)
