use Rattle.std.proofs.Common.{arith}
use Rattle.chunked_list.specs.Items.{chunk_items}
use Rattle.chunked_list.proofs.Parts.{size_is}
use Rattle.chunked_list.proofs.block.Block.insert.Goals as goal

pub cut-requires-clause-full : goal.cut-requires-clause-full
cut-requires-clause-full g c =
    let v = c.index.result.now in
    omega (arith, v.ok.0, size_is chunk_items c.args.self.now.chunks.items _ v c.place_of-place.ensures.is_part c.index.ensures)
