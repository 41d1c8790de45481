use Rattle.std.proofs.Common.{◌≡◌, ◌++◌, map, take}
use Rattle.tree_model.specs.Tree.{file_at, own_file}
use Rattle.tree_model.proofs.staging.add_own.Given as goal

abbrev pub invariant-loop-path : goal.invariant-loop-path
invariant-loop-path l = map file_at l.files.items ≡ map file_at l.initial.files.items ++ map (own_file l.key) (take l.path-index l.own)
