use Rattle.rocks_constraint.proofs.FaultLaws.{no_fault}
use Rattle.rocks_constraint.proofs.laws.dependency_without_fault.Goals as goal

pub returns : goal.returns
returns c = no_fault
