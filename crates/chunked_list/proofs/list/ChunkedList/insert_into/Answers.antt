use Rattle.std.proofs.Common.{◌≡◌, ◌+◌, ◌≤◌, length, ap, ◌∙◌, arith}
use Rattle.std.proofs.lemmas.List.Edits.{length-insert}
use Rattle.std.specs.List.{insert}
use Rattle.chunked_list.specs.Items.{block_items, items, IsBlock}
use Rattle.chunked_list.proofs.Parts.{on_err, size_is, end_within, joined_insert, joined_same, parts_with}
use Rattle.chunked_list.proofs.list.ChunkedList.insert_into.Goals as goal

pub insert-requires-clause-within : goal.insert-requires-clause-within
insert-requires-clause-within g c =
    let place = c.requires.place in
    omega (arith, place.within, size_is block_items c.args.self.now.blocks.items _ c.index_mut-block.result.now place.is_part c.index_mut-block.ensures.value)

pub insert-requires-clause-room : goal.insert-requires-clause-room
insert-requires-clause-room g c =
    let bs = c.args.self.now.blocks.items in
    let place = c.requires.place in
    omega (arith, c.requires.room, size_is block_items bs _ c.index_mut-block.result.now place.is_part c.index_mut-block.ensures.value, end_within block_items bs _ place.is_part)

pub returns-clause-ok : goal.returns-clause-ok
returns-clause-ok g c =
    let bs = c.args.self.now.blocks.items in
    let v = c.index_mut-block.result.now in
    let place = c.requires.place in
    let e = c.index_mut-block.ensures.value in
    joined_insert block_items bs _ v place.is_part e c.args.place.at c.insert.new.self c.args.item (omega (arith, place.within, size_is block_items bs _ v place.is_part e)) c.in_ok-insert.ensures.ok
    ∙ ap (λ j. insert (items c.args.self.now) j c.args.item) place.same

pub returns-clause-whole : goal.returns-clause-whole
returns-clause-whole g c =
    let bs = c.args.self.now.blocks.items in
    let v = c.index_mut-block.result.now in
    let w = c.insert.new.self in
    let n = c.args.self.now.len in
    let place = c.requires.place in
    let e = c.index_mut-block.ensures.value in
    let within : c.args.place.at ≤ length (block_items v) = omega (arith, place.within, size_is block_items bs _ v place.is_part e) in
    let more : length (block_items w) ≡ length (block_items v) + 1 = ap length c.in_ok-insert.ensures.ok ∙ length-insert (block_items v) c.args.place.at c.args.item within in
    parts_with block_items IsBlock bs n (n + 1) _ v w place.is_part e c.in_ok-insert.ensures.whole (omega arith) c.requires.whole

pub returns-in_err-insert-clause-err : goal.returns-in_err-insert-clause-err
returns-in_err-insert-clause-err g c =
    on_err c.from_residual.result (joined_same block_items c.args.self.now.blocks.items _ c.index_mut-block.result.now c.requires.place.is_part c.index_mut-block.ensures.value c.insert.new.self c.in_err-insert.ensures.err)

pub returns-in_err-insert-clause-whole : goal.returns-in_err-insert-clause-whole
returns-in_err-insert-clause-whole g c =
    let v = c.index_mut-block.result.now in
    let w = c.insert.new.self in
    let n = c.args.self.now.len in
    let same : length (block_items w) ≡ length (block_items v) = ap length c.in_err-insert.ensures.err in
    parts_with block_items IsBlock c.args.self.now.blocks.items n n _ v w c.requires.place.is_part c.index_mut-block.ensures.value c.in_err-insert.ensures.whole (omega arith) c.requires.whole
