use Rattle.std.proofs.Common.{Some, IfSome, ap, subst, ◌∙◌}
use Rattle.rocks_session.specs.Execute.{outcome_of}
use Rattle.served_rocks.specs.Search.{IsFoundIn}
use Rattle.rocks_reply.specs.Texts.{refusal_text}
use Rattle.rocks_session.specs.Step.{too_long}
use Rattle.rocks_session.specs.declared.eval.TheConstants.{LONGEST_TEXT}
use Rattle.rocks_session.proofs.Evaluating.{refuses, overlong}
use Rattle.rocks_session.proofs.eval.eval.Goals as goal

pub returns-in_ok-refused-in-TooLong-clause-answer : goal.returns-in_ok-refused-in-TooLong-clause-answer
returns-in_ok-refused-in-TooLong-clause-answer g c = λ set.
    let path = c.args.path.now in
    let H = (g.F.Shelf.state c.args.shelf.now).holds in
    let reply = c.in_ok-refused-in-TooLong.field-0 in
    let found = subst (λ f. IfSome H (λ servers. IsFoundIn LONGEST_TEXT servers path f)) c.in-TooLong.is c.in_ok-find.ensures.found in
    let refusal = c.in_ok-refused-in-TooLong.ensures.refusal ∙ ap Some c.too_long.ensures in
    let text = c.in_ok-refused-in-TooLong.ensures.text ∙ ap refusal_text c.too_long.ensures in
    overlong path set H (outcome_of set reply) (refuses set too_long reply refusal text) found
