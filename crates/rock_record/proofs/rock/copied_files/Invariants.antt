use Rattle.std.proofs.Common.{◌≡◌, take}
use Rattle.rock_record.proofs.rock.copied_files.Given as goal

abbrev pub invariant-loop-path : goal.invariant-loop-path
invariant-loop-path l = l.copied ≡ take l.path-index l.files
