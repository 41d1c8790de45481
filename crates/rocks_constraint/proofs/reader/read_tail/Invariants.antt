use Rattle.std.proofs.Common.{◌≡◌, ◌+◌, ◌≤◌, length}
use Rattle.rocks_constraint.specs.declared.constraint.TheConstants.{MOST_CONSTRAINTS}
use Rattle.rocks_constraint.proofs.Tails.{Reads, Fails}
use Rattle.rocks_constraint.proofs.reader.read_tail.Given as goal

abbrev pub invariant-loop-gap : goal.invariant-loop-gap
invariant-loop-gap l =
    (length l.constraints ≤ MOST_CONSTRAINTS)
    × (l.place + length l.text ≡ l.start + length l.fn.whole)
    × Reads l.fn.whole l.text l.constraints
    × Fails l.start l.fn.whole l.place l.text l.constraints

abbrev pub decreases-loop-gap : goal.decreases-loop-gap
decreases-loop-gap l = length l.text
