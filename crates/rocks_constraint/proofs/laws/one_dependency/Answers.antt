use Rattle.rocks_constraint.proofs.LawLemmas.{one_read, one_reading}
use Rattle.rocks_constraint.proofs.laws.one_dependency.Goals as goal

pub returns-clause-limited : goal.returns-clause-limited
returns-clause-limited c = one_read

pub returns-clause-unlimited : goal.returns-clause-unlimited
returns-clause-unlimited c = one_reading
