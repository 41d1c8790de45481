use Rattle.std.proofs.Common.{◌≡◌, ◌++◌, map, take}
use Rattle.std.specs.List.{flat_map}
use Rattle.rock_steps.specs.Steps.{folder_steps, target_step}
use Rattle.rock_steps.proofs.building.build_steps.Given as goal

abbrev pub invariant-loop-folder : goal.invariant-loop-folder
invariant-loop-folder l =
    l.steps.items ≡ map target_step l.fn.recipe.files ++ flat_map (folder_steps l.listing) (take l.folder-index l.folder-items)
