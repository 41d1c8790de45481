use Rattle.std.proofs.Common.{◌≡◌, ◌+◌, ◌<◌, length, ap, ◌∙◌, arith}
use Rattle.std.specs.List.{insert}
use Rattle.chunked_list.specs.Items.{chunk_items, block_items, HasItems}
use Rattle.chunked_list.proofs.Parts.{on_err, size_is, joined_insert, joined_same, parts_with}
use Rattle.chunked_list.proofs.block.Block.insert_into.Goals as goal

pub insert-requires : goal.insert-requires
insert-requires g c =
    let v = c.index_mut-chunk.result.now in
    let place = c.requires.place in
    omega (arith, place.within, v.ok.0, size_is chunk_items c.args.self.now.chunks.items _ v place.is_part c.index_mut-chunk.ensures.value)

pub returns-clause-ok : goal.returns-clause-ok
returns-clause-ok g c =
    let cs = c.args.self.now.chunks.items in
    let v = c.index_mut-chunk.result.now in
    let w = c.insert.new.self in
    let place = c.requires.place in
    let e = c.index_mut-chunk.ensures.value in
    joined_insert chunk_items cs _ v place.is_part e c.args.place.at w c.args.item (omega (arith, place.within, size_is chunk_items cs _ v place.is_part e)) c.in_ok-insert.ensures.items
    ∙ ap (λ j. insert (block_items c.args.self.now) j c.args.item) place.same

pub returns-clause-whole : goal.returns-clause-whole
returns-clause-whole g c =
    let cs = c.args.self.now.chunks.items in
    let v = c.index_mut-chunk.result.now in
    let w = c.insert.new.self in
    let n = c.args.self.now.len in
    let more : length w.items ≡ length v.items + 1 = omega (arith, c.in_ok-insert.ensures.len, v.ok.0, w.ok.0) in
    record {
      some = omega arith;
      chunks = parts_with chunk_items HasItems cs n (n + 1) _ v w c.requires.place.is_part c.index_mut-chunk.ensures.value (omega arith) (omega arith) c.requires.whole.chunks;
    }

pub returns-in_err-insert-clause-err : goal.returns-in_err-insert-clause-err
returns-in_err-insert-clause-err g c =
    on_err c.from_residual.result (joined_same chunk_items c.args.self.now.chunks.items _ c.index_mut-chunk.result.now c.requires.place.is_part c.index_mut-chunk.ensures.value c.insert.new.self c.in_err-insert.ensures.items)

pub returns-in_err-insert-clause-whole : goal.returns-in_err-insert-clause-whole
returns-in_err-insert-clause-whole g c =
    let cs = c.args.self.now.chunks.items in
    let v = c.index_mut-chunk.result.now in
    let w = c.insert.new.self in
    let n = c.args.self.now.len in
    let place = c.requires.place in
    let e = c.index_mut-chunk.ensures.value in
    let same : length w.items ≡ length v.items = ap length c.in_err-insert.ensures.items in
    let some : 0 < length w.items = omega (arith, place.within, size_is chunk_items cs _ v place.is_part e) in
    record { some = c.requires.whole.some; chunks = parts_with chunk_items HasItems cs n n _ v w place.is_part e some (omega arith) c.requires.whole.chunks }
