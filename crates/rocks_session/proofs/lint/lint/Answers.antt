use Rattle.std.proofs.Common.{subst}
use Rattle.served_rocks.specs.Rockspecs.{IsUnserved}
use Rattle.served_rocks.specs.declared.rockspecs.Origin.TheVariants.{Sources}
use Rattle.rocks_session.specs.Execute.{outcome_of}
use Rattle.rocks_session.proofs.Evaluating.{refuses}
use Rattle.rocks_session.proofs.Linting.{refused_so, served_so}
use Rattle.rocks_session.proofs.lint.lint.Goals as goal

pub returns-in_ok-tell-in-Ok-clause-answer : goal.returns-in_ok-tell-in-Ok-clause-answer
returns-in_ok-tell-in-Ok-clause-answer g c = λ set.
    served_so c.args.key.now set (g.F.Shelf.state c.args.shelf.now) c.in-Ok.served (outcome_of set c.in_ok-tell-in-Ok.field-0) c.in-Ok.ensures.served (c.in_ok-tell-in-Ok.ensures set)

pub returns-in_ok-refused-in-Err-Refused-clause-answer : goal.returns-in_ok-refused-in-Err-Refused-clause-answer
returns-in_ok-refused-in-Err-Refused-clause-answer g c = λ set.
    let reply = c.in_ok-refused-in-Err-Refused.field-0 in
    let H = (g.F.Shelf.state c.args.shelf.now).holds in
    let unserved = subst (IsUnserved Sources c.args.key.now H) c.in-Err-Refused.field-0-is c.in-Err-Refused.ensures.unserved in
    refused_so c.args.key.now set H c.in-Err-Refused.refusal (outcome_of set reply) unserved
    (refuses set c.in-Err-Refused.refusal reply c.in_ok-refused-in-Err-Refused.ensures.refusal c.in_ok-refused-in-Err-Refused.ensures.text)
