use Rattle.std.proofs.Common.{◌≡◌, ◌+◌, ◌-◌, length}
use Rattle.chunked_list.specs.Items.{chunk_items}
use Rattle.chunked_list.specs.Parts.{before}
use Rattle.chunked_list.proofs.block.Block.place_of.Given as goal

abbrev pub invariant-loop-left : goal.invariant-loop-left
invariant-loop-left g l = before chunk_items l.self.chunks.items l.chunk + l.left ≡ l.at

abbrev pub decreases-loop-left : goal.decreases-loop-left
decreases-loop-left g l = length l.self.chunks.items - l.chunk
