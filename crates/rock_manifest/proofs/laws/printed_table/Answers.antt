use Rattle.rock_manifest.proofs.PrintedTables.{record_table}
use Rattle.rock_manifest.proofs.laws.printed_table.Goals as goal

pub returns : goal.returns
returns c = record_table
