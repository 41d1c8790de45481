use Rattle.std.proofs.Common.{◌≡◌, ◌++◌, map, take}
use Rattle.rock_folders.specs.Steps.{own_place}
use Rattle.rock_folders.proofs.places.add_own_places.Given as goal

abbrev pub invariant-loop-path : goal.invariant-loop-path
invariant-loop-path l = l.places.items ≡ l.initial.places.items ++ map (λ file. own_place file.0) (take l.path-index l.files)
