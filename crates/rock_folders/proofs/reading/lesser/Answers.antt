use Rattle.std.proofs.Common.{sym}
use Rattle.rock_folders.proofs.Judging.{not_above, not_itself}
use Rattle.rock_folders.proofs.reading.lesser.Goals as goal

pub returns-then-lt-clause-first : goal.returns-then-lt-clause-first
returns-then-lt-clause-first c = not_itself c.args.left

pub returns-else-lt-clause-first : goal.returns-else-lt-clause-first
returns-else-lt-clause-first c = not_above c.args.left c.args.right (sym c.if-lt.ensures)

pub returns-else-lt-clause-second : goal.returns-else-lt-clause-second
returns-else-lt-clause-second c = not_itself c.args.right
