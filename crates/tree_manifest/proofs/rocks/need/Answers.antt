use Rattle.std.proofs.Common.{◌≡◌, ap, ◌∙◌, codes, Some, sym}
use Rattle.manifest_text.specs.Text.{key_text}
use Rattle.rocks_constraint.specs.Printed.{printed}
use Rattle.tree_manifest.specs.Forms.{text_line}
use Rattle.tree_manifest.specs.Reading.{text_of}
use Rattle.tree_manifest.proofs.Decoded.{met_text, wanted_again}
use Rattle.tree_manifest.proofs.rocks.need.Goals as goal

pub returns-in_default-clause-known : goal.returns-in_default-clause-known
returns-in_default-clause-known c need is same =
    let mets : c.args.met.now ≡ text_line (codes "met = ") (key_text need.1) = cc same in
    absurd (c.in_default.not-Some need.1 (c.in_ok-met.ensures.known need.1 is.1
    (c.deref.ensures.value ∙ c.in_ok-text_in.ensures ∙ ap (text_of 6) mets ∙ met_text need is)))

pub returns-in_default-2-clause-known : goal.returns-in_default-2-clause-known
returns-in_default-2-clause-known c need is same =
    let wants : c.args.needs.now ≡ text_line (codes "needs = ") (printed need.0.name need.0.constraints) = cc same in
    absurd (c.in_default-2.not-Some need.0 (c.in_ok-wanted.ensures.known need.0 is.0
    (c.deref-2.ensures.value ∙ c.in_ok-text_in-2.ensures ∙ ap (text_of 8) wants ∙ wanted_again need is)))

pub returns-clause-known : goal.returns-clause-known
returns-clause-known c need is same =
    let mets : c.args.met.now ≡ text_line (codes "met = ") (key_text need.1) = cc same in
    let wants : c.args.needs.now ≡ text_line (codes "needs = ") (printed need.0.name need.0.constraints) = cc same in
    let met : Some c.in-Some.met ≡ Some need.1 = sym c.in-Some.is ∙ c.in_ok-met.ensures.known need.1 is.1
    (c.deref.ensures.value ∙ c.in_ok-text_in.ensures ∙ ap (text_of 6) mets ∙ met_text need is) in
    let wanted : Some c.in-Some-2.wanted ≡ Some need.0 = sym c.in-Some-2.is ∙ c.in_ok-wanted.ensures.known need.0 is.0
    (c.deref-2.ensures.value ∙ c.in_ok-text_in-2.ensures ∙ ap (text_of 8) wants ∙ wanted_again need is) in
    let first : c.in-Some.met ≡ need.1 = cc met in
    let second : c.in-Some-2.wanted ≡ need.0 = cc wanted in
    λ i. Some (second i, first i)
