use Rattle.std.proofs.Common.{◌≡◌, map, take}
use Rattle.std.specs.List.{filter}
use Rattle.rock_steps.specs.Steps.{is_in, kept}
use Rattle.rock_steps.proofs.building.kept_steps.Given as goal

abbrev pub invariant-loop-path : goal.invariant-loop-path
invariant-loop-path l = l.steps.items ≡ map kept (filter (is_in l.folder) (take l.path-index l.listing))
