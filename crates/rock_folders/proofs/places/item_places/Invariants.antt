use Rattle.std.proofs.Common.{◌≡◌, map, take}
use Rattle.rock_folders.specs.Steps.{item_place}
use Rattle.rock_folders.proofs.places.item_places.Given as goal

abbrev pub invariant-loop-item : goal.invariant-loop-item
invariant-loop-item l = l.places.items ≡ map (λ file. item_place file.0) (take l.item-index l.files)
