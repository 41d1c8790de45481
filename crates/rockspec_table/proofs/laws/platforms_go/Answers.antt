use Rattle.rockspec_table.proofs.Merged.{keys-merged_fields, IsOrdered-merged_fields}
use Rattle.rockspec_table.proofs.laws.platforms_go.Goals as goal

pub returns-clause-ordered : goal.returns-clause-ordered
returns-clause-ordered c = IsOrdered-merged_fields c.args.globals.now c.requires

pub returns-clause-keys : goal.returns-clause-keys
returns-clause-keys c = keys-merged_fields c.args.globals.now
