use Rattle.std.proofs.Common.{◌≡◌, map, take}
use Rattle.tree_sets.proofs.entry.own_of.Given as goal

abbrev pub invariant-loop-path : goal.invariant-loop-path
invariant-loop-path l = l.own ≡ map (λ file. file.0) (take l.path-index l.files)
