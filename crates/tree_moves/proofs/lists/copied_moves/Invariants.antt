use Rattle.std.proofs.Common.{◌≡◌, take}
use Rattle.tree_moves.proofs.lists.copied_moves.Given as goal

abbrev pub invariant-loop-one : goal.invariant-loop-one
invariant-loop-one l = l.copied ≡ take l.one-index l.moves
