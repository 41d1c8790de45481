use Rattle.std.proofs.Common.{arith, inr, refl}
use Rattle.rocks_constraint.proofs.Outcomes.{long_fault, wrong_fault}
use Rattle.rocks_constraint.proofs.dependency.Dependency.read_bytes.Goals as goal

pub returns-in-Ok-2-clause-fault : goal.returns-in-Ok-2-clause-fault
returns-in-Ok-2-clause-fault c =
    inr (long_fault c.args.text.now c.args.text.now refl c.in-Ok.name c.in-Ok.constraints (omega arith) c.in-Ok.ensures.read)

pub returns-in-Err-clause-fault : goal.returns-in-Err-clause-fault
returns-in-Err-clause-fault c =
    wrong_fault c.args.text.now c.args.text.now refl c.in-Err.wrong c.limited.result c.limited.ensures c.in-Err.ensures.wrong
