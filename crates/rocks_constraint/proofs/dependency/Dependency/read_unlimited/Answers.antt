use Rattle.std.proofs.Common.{sym, ◌∙◌}
use Rattle.rocks_constraint.proofs.Outcomes.{unread}
use Rattle.rocks_constraint.proofs.dependency.Dependency.read_unlimited.Goals as goal

pub returns-in-Err-Operator-clause-none : goal.returns-in-Err-Operator-clause-none
returns-in-Err-Operator-clause-none c none =
    let part = c.in-Err-Operator in
    unread c.args.text.now part.field-0 (λ memory. let clash = sym part.field-0-is ∙ memory in cc clash) part.ensures.wrong

pub returns-in-Err-Other-clause-none : goal.returns-in-Err-Other-clause-none
returns-in-Err-Other-clause-none c none =
    let part = c.in-Err-Other in
    unread c.args.text.now part.field-0 (λ memory. let clash = sym part.field-0-is ∙ memory in cc clash) part.ensures.wrong
