use Rattle.std.proofs.Common.{◌+◌, ◌*◌, length}
use Rattle.schema_table.specs.Paths.{referents}
use Rattle.schema_table.proofs.Absent.{IsNotAbsentBefore}
use Rattle.schema_table.proofs.absence.+absence.Given as goal

abbrev pub invariant-is_absent_within-loop-at : goal.invariant-is_absent_within-loop-at
invariant-is_absent_within-loop-at l = IsNotAbsentBefore l.first (referents l.rest) l.table l.at

abbrev pub decreases-is_absent : goal.decreases-is_absent
decreases-is_absent l = 3 * length l.parts.now

abbrev pub decreases-is_absent_in : goal.decreases-is_absent_in
decreases-is_absent_in l = 3 * length l.parts.now + 1

abbrev pub decreases-is_absent_within : goal.decreases-is_absent_within
decreases-is_absent_within l = 3 * length l.rest.now + 2
