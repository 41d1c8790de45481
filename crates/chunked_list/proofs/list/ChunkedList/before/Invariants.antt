use Rattle.std.proofs.Common.{◌≡◌}
use Rattle.chunked_list.specs.Items.{block_items}
use Rattle.chunked_list.specs.Parts.{before}
use Rattle.chunked_list.proofs.list.ChunkedList.before.Given as goal

abbrev pub invariant-loop-at : goal.invariant-loop-at
invariant-loop-at g l = l.before ≡ before block_items l.self.blocks.items l.at
