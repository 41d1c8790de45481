use Rattle.schema_table.proofs.Answered.{one}
use Rattle.schema_table.proofs.laws.one_answer.Goals as goal

pub returns : goal.returns
returns c = one c.args.rows.now c.args.table.now c.args.format c.args.first.now c.args.second.now c.requires.first
    c.requires.second c.requires.first_told c.requires.second_told
