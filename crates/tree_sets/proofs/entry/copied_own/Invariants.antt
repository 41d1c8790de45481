use Rattle.std.proofs.Common.{◌≡◌, take}
use Rattle.tree_sets.proofs.entry.copied_own.Given as goal

abbrev pub invariant-loop-path : goal.invariant-loop-path
invariant-loop-path l = l.copied ≡ take l.path-index l.own
