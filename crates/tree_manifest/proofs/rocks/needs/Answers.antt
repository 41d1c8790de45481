use Rattle.std.proofs.Common.{◌≡◌, [], ◌∷◌, ◌++◌, ap, arith, sym, ◌∙◌, append-nil, Some}
use Rattle.std.specs.Option.{option_to_list}
use Rattle.tree_manifest.specs.Forms.{need_texts}
use Rattle.tree_manifest.proofs.Decoded.{IsNeed}
use Rattle.tree_manifest.proofs.Nth.{Need}
use Rattle.tree_manifest.proofs.Turns.{needs_end, needs_turn}
use Rattle.tree_manifest.proofs.rocks.needs.Goals.{in-Some+in_ok-push, in_default}
use Rattle.tree_manifest.proofs.rocks.needs.Goals as goal

pub loop-at-preserved : goal.loop-at-preserved
loop-at-preserved c =
    let found = c.loop-at.found in
    let o = c.in_ok-need.field-0 in
    let met = c.index-texts-at.result in
    let wanted = c.index-texts-at-in-loop-at.result in
    let finds : (need : Need) → IsNeed need → met ∷ wanted ∷ [] ≡ need_texts need → o ≡ Some need =
    λ need is same. c.in_ok-need.ensures.known need is
    ((λ i. c.as_slice-met.ensures i ∷ c.as_slice-needs.ensures i ∷ []) ∙ same) in
    let grown : c.match-branch-2.found ≡ found ++ option_to_list o =
    elim c.match-branch-2.branch [
      | in-Some+in_ok-push w ↦ w.found-is ∙ w.in_ok-push.ensures.ok ∙ sym (ap (λ p. found ++ option_to_list p) w.in-Some.is)
      | in_default w ↦ w.found-is ∙ sym (append-nil found) ∙ sym (ap (λ p. found ++ option_to_list p) w.in_default.is)
    ] in
    needs_turn c.args.texts.now c.loop-at.at met wanted found c.match-branch-2.found o c.loop-at.invariant (omega arith)
    c.index-texts-at.is c.index-texts-at-in-loop-at.is c.in_ok-need.ensures.valid finds grown

pub returns-clause-known : goal.returns-clause-known
returns-clause-known c =
    needs_end c.args.texts.now c.loop-at.at c.loop-at.found c.loop-at.invariant (omega arith)
