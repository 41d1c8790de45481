use Rattle.std.proofs.Common.{◌≡◌, map, not, take}
use Rattle.std.specs.List.{filter}
use Rattle.rock_steps.specs.Steps.{is_passed, taken}
use Rattle.rock_steps.proofs.taking.taken_steps.Given as goal

abbrev pub invariant-loop-path : goal.invariant-loop-path
invariant-loop-path l =
    l.steps.items ≡ map taken (filter (λ path. not (is_passed l.rockspec path)) (take l.path-index l.listing))
