use Rattle.rocks_session.proofs.Steps.{one_step, some_step}
use Rattle.rocks_session.proofs.laws.one_step.Goals as goal

pub returns-clause-some : goal.returns-clause-some
returns-clause-some c = some_step

pub returns-clause-only : goal.returns-clause-only
returns-clause-only c = one_step
