use Rattle.std.proofs.Common.{◌≡◌, [], drop, false, length}
use Rattle.tree_manifest.specs.Reading.{lines, with_lines}
use Rattle.tree_manifest.proofs.groups.groups_under.Given as goal

abbrev pub invariant-loop-line : goal.invariant-loop-line
invariant-loop-line l =
    with_lines l.name l.depths l.gathered (drop (length l.yielded) (lines l.bytes))
    ≡ with_lines l.name l.depths (record { inside = false; outer = []; groups = [] }) (lines l.bytes)
