use Rattle.std.proofs.Common.{◌≡◌, ◌++◌, drop, false, length}
use Rattle.rock_manifest.specs.Reading.{files_under, lines}
use Rattle.rock_manifest.proofs.lines.files_under.Given as goal

abbrev pub invariant-loop-line : goal.invariant-loop-line
invariant-loop-line l =
    l.files.items ++ files_under l.name l.inside (drop (length l.yielded) (lines l.bytes))
    ≡ files_under l.name false (lines l.bytes)
