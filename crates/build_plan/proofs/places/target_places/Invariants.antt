use Rattle.std.proofs.Common.{◌≡◌, map, take}
use Rattle.build_plan.specs.Steps.{place_of}
use Rattle.build_plan.proofs.places.target_places.Given as goal

abbrev pub invariant-loop-target : goal.invariant-loop-target
invariant-loop-target l = l.places.items ≡ map (λ target. place_of target.to) (take l.target-index l.targets)
