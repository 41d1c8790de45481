use Rattle.std.proofs.Common.{◌≡◌, take}
use Rattle.rock_record.proofs.rock.copied_dependencies.Given as goal

abbrev pub invariant-loop-dependency : goal.invariant-loop-dependency
invariant-loop-dependency l = l.copied ≡ take l.dependency-index l.dependencies
