use Rattle.rocks_constraint.proofs.OneFault.{one_fault}
use Rattle.rocks_constraint.proofs.laws.one_fault.Goals as goal

pub returns : goal.returns
returns c = one_fault
