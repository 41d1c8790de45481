use Rattle.std.proofs.Common.{◌≡◌, take}
use Rattle.tree_moves.proofs.lists.copied_staged.Given as goal

abbrev pub invariant-loop-file : goal.invariant-loop-file
invariant-loop-file l = l.copied ≡ take l.file-index l.staged
