use Rattle.std.proofs.Common.{take}
use Rattle.rock_folders.specs.Found.{AreFound}
use Rattle.rock_folders.proofs.finding.found_rocks.Given as goal

abbrev pub invariant-loop-path : goal.invariant-loop-path
invariant-loop-path l = AreFound (take l.path-index l.paths) l.keys.items
