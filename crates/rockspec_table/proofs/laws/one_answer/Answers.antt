use Rattle.rockspec_table.proofs.Outcomes.{one_merged, one_fault, no_fault}
use Rattle.rockspec_table.proofs.laws.one_answer.Goals as goal

pub returns-clause-fields : goal.returns-clause-fields
returns-clause-fields c = λ format other table found f g.
    one_merged c.args.globals.now format other table found f.merged g.merged

pub returns-clause-fault : goal.returns-clause-fault
returns-clause-fault c = one_fault c.args.globals.now

pub returns-clause-apart : goal.returns-clause-apart
returns-clause-apart c = no_fault c.args.globals.now
