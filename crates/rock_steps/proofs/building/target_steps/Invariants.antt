use Rattle.std.proofs.Common.{◌≡◌, map, take}
use Rattle.rock_steps.specs.Steps.{target_step}
use Rattle.rock_steps.proofs.building.target_steps.Given as goal

abbrev pub invariant-loop-target : goal.invariant-loop-target
invariant-loop-target l = l.steps.items ≡ map target_step (take l.target-index l.targets)
