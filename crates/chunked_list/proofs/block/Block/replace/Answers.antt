use Rattle.std.proofs.Common.{◌≡◌, ◌<◌, Some, length, set, sym, ap, ◌∙◌, subst, arith, length-set}
use Rattle.std.specs.List.{slice_get}
use Rattle.chunked_list.specs.Items.{chunk_items, block_items, HasItems}
use Rattle.chunked_list.proofs.Parts.{size_is, some_at, some_in, joined_set, parts_with}
use Rattle.chunked_list.proofs.block.Block.replace.Goals as goal

pub index_mut-requires : goal.index_mut-requires
index_mut-requires g c =
    let place = c.place_of-place.ensures in
    let v = c.index_mut-chunk.result.now in
    omega (arith, place.within, v.ok.0, size_is chunk_items c.args.self.now.chunks.items _ v place.is_part c.index_mut-chunk.ensures.value)

pub returns-clause-was : goal.returns-clause-was
returns-clause-was g c =
    let cs = c.args.self.now.chunks.items in
    let place = c.place_of-place.ensures in
    let v = c.index_mut-chunk.result.now in
    let x = c.index_mut.result.now in
    let e = c.index_mut-chunk.ensures.value in
    subst (λ i. slice_get (block_items c.args.self.now) i ≡ Some x) place.same
    (some_in chunk_items cs _ v place.is_part e _ x (some_at v.items _ x (omega (arith, place.within, size_is chunk_items cs _ v place.is_part e)) c.index_mut.ensures.value))
    ∙ ap Some (sym c.replace.ensures.value)

pub returns-clause-now : goal.returns-clause-now
returns-clause-now g c =
    let cs = c.args.self.now.chunks.items in
    let place = c.place_of-place.ensures in
    let v = c.index_mut-chunk.result.now in
    let e = c.index_mut-chunk.ensures.value in
    joined_set chunk_items cs _ v place.is_part e c.place_of-place.result.at _ c.args.item (omega (arith, place.within, size_is chunk_items cs _ v place.is_part e)) (ap (set v.items c.place_of-place.result.at) c.replace.ensures.after)
    ∙ ap (λ j. set (block_items c.args.self.now) j c.args.item) place.same

pub returns-clause-whole : goal.returns-clause-whole
returns-clause-whole g c =
    let cs = c.args.self.now.chunks.items in
    let place = c.place_of-place.ensures in
    let v = c.index_mut-chunk.result.now in
    let e = c.index_mut-chunk.ensures.value in
    let n = c.args.self.now.len in
    let same = length-set v.items c.place_of-place.result.at c.replace.new.dest in
    let some : 0 < length (set v.items c.place_of-place.result.at c.replace.new.dest) = omega (arith, place.within, size_is chunk_items cs _ v place.is_part e) in
    record { some = c.requires.whole.some; chunks = parts_with chunk_items HasItems cs n n _ v _ place.is_part e some (omega arith) c.requires.whole.chunks }
