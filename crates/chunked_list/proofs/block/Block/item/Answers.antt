use Rattle.std.proofs.Common.{◌≡◌, Some, subst, arith}
use Rattle.std.specs.List.{slice_get}
use Rattle.chunked_list.specs.Items.{chunk_items, block_items}
use Rattle.chunked_list.proofs.Parts.{size_is, some_in, some_at}
use Rattle.chunked_list.proofs.block.Block.item.Goals as goal

pub index-requires : goal.index-requires
index-requires g c =
    let place = c.place_of-place.ensures in
    let v = c.index-chunk.result.now in
    omega (arith, place.within, v.ok.0, size_is chunk_items c.args.self.now.chunks.items _ v place.is_part c.index-chunk.ensures)

pub returns : goal.returns
returns g c =
    let cs = c.args.self.now.chunks.items in
    let place = c.place_of-place.ensures in
    let v = c.index-chunk.result.now in
    let x = c.index.result.now in
    subst (λ i. slice_get (block_items c.args.self.now) i ≡ Some x) place.same
    (some_in chunk_items cs _ v place.is_part c.index-chunk.ensures _ x (some_at v.items _ x (omega (arith, place.within, size_is chunk_items cs _ v place.is_part c.index-chunk.ensures)) c.index.ensures))
