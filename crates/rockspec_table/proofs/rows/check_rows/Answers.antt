use Rattle.rockspec_table.proofs.rows.check_rows.Goals as goal

pub returns : goal.returns
returns c = record { rows = _; are = c.rows.ensures; checks = c.check.ensures }
