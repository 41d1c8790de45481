use Rattle.std.proofs.Common.{arith}
use Rattle.chunked_list.specs.Items.{block_items}
use Rattle.chunked_list.proofs.Parts.{size_is, before_next, end_within}
use Rattle.chunked_list.proofs.list.ChunkedList.before.Goals as goal

pub overflow_add-before : goal.overflow_add-before
overflow_add-before g c =
    let bs = c.args.self.now.blocks.items in
    let k = c.loop-at.at in
    omega (arith, size_is block_items bs k c.index.result.now (omega arith) c.index.ensures, end_within block_items bs k (omega arith), c.requires.whole.counted)

pub loop-at-preserved : goal.loop-at-preserved
loop-at-preserved g c =
    let bs = c.args.self.now.blocks.items in
    let k = c.loop-at.at in
    omega (arith, size_is block_items bs k c.index.result.now (omega arith) c.index.ensures, before_next block_items bs k)
