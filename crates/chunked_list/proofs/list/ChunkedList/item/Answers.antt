use Rattle.std.proofs.Common.{◌≡◌, Some, subst, arith}
use Rattle.std.specs.List.{slice_get}
use Rattle.chunked_list.specs.Items.{block_items, items}
use Rattle.chunked_list.proofs.Parts.{size_is, some_in}
use Rattle.chunked_list.proofs.list.ChunkedList.item.Goals as goal

pub item-requires-clause-within : goal.item-requires-clause-within
item-requires-clause-within g c =
    let place = c.place_of-place.ensures in
    omega (arith, place.within, size_is block_items c.args.self.now.blocks.items _ c.index.result.now place.is_part c.index.ensures)

pub returns : goal.returns
returns g c =
    let place = c.place_of-place.ensures in
    let x = c.item.result.now in
    subst (λ i. slice_get (items c.args.self.now) i ≡ Some x) place.same
    (some_in block_items c.args.self.now.blocks.items _ c.index.result.now place.is_part c.index.ensures _ x c.item.ensures)
