use Rattle.std.proofs.Common.{◌≡◌, map, take}
use Rattle.build_plan.specs.Steps.{folder_place}
use Rattle.build_plan.proofs.places.folder_places.Given as goal

abbrev pub invariant-loop-folder : goal.invariant-loop-folder
invariant-loop-folder l = l.places.items ≡ map folder_place (take l.folder-index l.folders)
