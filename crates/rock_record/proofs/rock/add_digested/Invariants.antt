use Rattle.std.proofs.Common.{◌≡◌, ◌++◌, take}
use Rattle.rock_record.specs.Rocks.{digested}
use Rattle.rock_record.proofs.rock.add_digested.Given as goal

abbrev pub invariant-loop-path : goal.invariant-loop-path
invariant-loop-path l = l.made ≡ l.initial.made ++ digested (take l.path-index l.files)
