use Rattle.std.proofs.Common.{map, take}
use Rattle.rockspec.specs.Fields.{AreRead}
use Rattle.rockspec.proofs.dependencies.read_all.Given as goal

abbrev pub invariant-loop-text : goal.invariant-loop-text
invariant-loop-text l = AreRead (map (λ text. text.now) (take l.text-index l.texts)) l.read
