use Rattle.rocks_constraint.proofs.PrintedLemmas.{printed_read, printed_reading}
use Rattle.rocks_constraint.proofs.laws.written_is_read.Goals as goal

pub returns-clause-unlimited : goal.returns-clause-unlimited
returns-clause-unlimited c = printed_reading

pub returns-clause-limited : goal.returns-clause-limited
returns-clause-limited c = printed_read
