use Rattle.std.proofs.Common.{◌≡◌, ◌+◌, ◌-◌, length}
use Rattle.chunked_list.specs.Items.{block_items}
use Rattle.chunked_list.specs.Parts.{before}
use Rattle.chunked_list.proofs.list.ChunkedList.place_of.Given as goal

abbrev pub invariant-loop-left : goal.invariant-loop-left
invariant-loop-left g l = before block_items l.self.blocks.items l.block + l.left ≡ l.at

abbrev pub decreases-loop-left : goal.decreases-loop-left
decreases-loop-left g l = length l.self.blocks.items - l.block
