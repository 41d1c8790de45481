use Rattle.std.proofs.Common.{◌≡◌, ◌++◌, drop}
use Rattle.rocks_text.specs.Modules.{slashed}
use Rattle.rocks_text.proofs.module.slashed.Given as goal

-- what was written, and the rest of the name with its dots turned, are the whole
abbrev pub invariant-loop-b : goal.invariant-loop-b
invariant-loop-b l = l.path.items ++ slashed (drop l.b-index l.name) ≡ slashed l.name
