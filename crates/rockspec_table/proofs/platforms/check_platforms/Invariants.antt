use Rattle.rockspec_table.proofs.BadFields.{HasNoneBefore}
use Rattle.rockspec_table.proofs.platforms.check_platforms.Given as goal

abbrev pub invariant-loop-name : goal.invariant-loop-name
invariant-loop-name l = HasNoneBefore l.globals l.name-index
