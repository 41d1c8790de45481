use Rattle.std.proofs.Common.{◌≡◌, ◌++◌, ap, sym, ◌∙◌, append-nil, Some}
use Rattle.std.specs.Option.{option_to_list}
use Rattle.manifest_text.specs.Views.{IsRockKey}
use Rattle.rocks_version.specs.declared.key.RockKey.{RockKey}
use Rattle.tree_manifest.specs.Forms.{key_line}
use Rattle.tree_manifest.specs.Reading.{text_of}
use Rattle.tree_manifest.proofs.Decoded.{key_line_text}
use Rattle.tree_manifest.proofs.Turns.{at_end, turn}
use Rattle.tree_manifest.proofs.provided.keys_in.Goals.{in-Some+in_ok-push, in_default}
use Rattle.tree_manifest.proofs.provided.keys_in.Goals as goal

pub loop-text-preserved : goal.loop-text-preserved
loop-text-preserved c =
    let found = c.loop-text.found in
    let finds : (key : RockKey) → IsRockKey key → c.text-item.result ≡ key_line key → c.in_ok-key.field-0 ≡ Some key =
    λ key is same. c.in_ok-key.ensures.known key is (c.deref.ensures.value ∙ c.in_ok-text.ensures
    ∙ ap (text_of 0) (c.as_slice.ensures ∙ same) ∙ key_line_text key is) in
    let grown : c.match-branch-3.found ≡ found ++ option_to_list c.in_ok-key.field-0 =
    elim c.match-branch-3.branch [
      | in-Some+in_ok-push w ↦ w.found-is ∙ w.in_ok-push.ensures.ok ∙ sym (ap (λ o. found ++ option_to_list o) w.in-Some.is)
      | in_default w ↦ w.found-is ∙ sym (append-nil found) ∙ sym (ap (λ o. found ++ option_to_list o) w.in_default.is)
    ] in
    turn key_line IsRockKey c.args.texts.now c.loop-text.text-index c.text-item.result found c.match-branch-3.found
    c.in_ok-key.field-0 c.loop-text.invariant c.loop-text-test.true c.text-item.is c.in_ok-key.ensures.valid finds grown

pub returns-clause-known : goal.returns-clause-known
returns-clause-known c =
    at_end key_line IsRockKey c.args.texts.now c.loop-text.text-index c.loop-text.found c.loop-text.invariant
    c.loop-text-test.false
