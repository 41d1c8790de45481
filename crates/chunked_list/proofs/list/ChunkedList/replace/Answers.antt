use Rattle.std.proofs.Common.{◌≡◌, Some, length, set, ap, ◌∙◌, subst, arith, length-set}
use Rattle.std.specs.List.{slice_get}
use Rattle.chunked_list.specs.Items.{block_items, items, IsBlock}
use Rattle.chunked_list.proofs.Parts.{size_is, some_in, joined_set, parts_with}
use Rattle.chunked_list.proofs.list.ChunkedList.replace.Goals as goal

pub replace-requires-clause-within : goal.replace-requires-clause-within
replace-requires-clause-within g c =
    let place = c.place_of-place.ensures in
    omega (arith, place.within, size_is block_items c.args.self.now.blocks.items _ c.index_mut-block.result.now place.is_part c.index_mut-block.ensures.value)

pub returns-clause-was : goal.returns-clause-was
returns-clause-was g c =
    let place = c.place_of-place.ensures in
    subst (λ i. slice_get (items c.args.self.now) i ≡ Some c.replace.result) place.same
    (some_in block_items c.args.self.now.blocks.items _ c.index_mut-block.result.now place.is_part c.index_mut-block.ensures.value _ _ c.replace.ensures.was)

pub returns-clause-now : goal.returns-clause-now
returns-clause-now g c =
    let bs = c.args.self.now.blocks.items in
    let place = c.place_of-place.ensures in
    let v = c.index_mut-block.result.now in
    let e = c.index_mut-block.ensures.value in
    joined_set block_items bs _ v place.is_part e c.place_of-place.result.at c.replace.new.self c.args.item (omega (arith, place.within, size_is block_items bs _ v place.is_part e)) c.replace.ensures.now
    ∙ ap (λ j. set (items c.args.self.now) j c.args.item) place.same

pub returns-clause-whole : goal.returns-clause-whole
returns-clause-whole g c =
    let v = c.index_mut-block.result.now in
    let w = c.replace.new.self in
    let n = c.args.self.now.len in
    let same : length (block_items w) ≡ length (block_items v) = ap length c.replace.ensures.now ∙ length-set (block_items v) c.place_of-place.result.at c.args.item in
    parts_with block_items IsBlock c.args.self.now.blocks.items n n _ v w c.place_of-place.ensures.is_part c.index_mut-block.ensures.value c.replace.ensures.whole (omega arith) c.requires.whole
