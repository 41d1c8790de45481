use Rattle.std.proofs.Common.{◌≡◌, ◌+◌, ◌++◌, get_or, set, ap, ◌∙◌, sym, subst, arith}
use Rattle.std.proofs.lemmas.List.{take-append-drop}
use Rattle.std.specs.List.{insert}
use Rattle.chunked_list.specs.Items.{chunk_items, HasItems}
use Rattle.chunked_list.specs.Parts.{joined, AreParts}
use Rattle.chunked_list.proofs.Parts.{size_is, joined_cut, parts_cut}
use Rattle.chunked_list.proofs.block.Block.cut.Goals as goal

pub split_off-requires : goal.split_off-requires
split_off-requires g c =
    let cs = c.args.self.now.chunks.items in
    let v = c.index_mut-low.result.now in
    let e : v ≡ get_or cs c.args.chunk v = subst (λ xs. v ≡ get_or xs c.args.chunk v) c.in_ok-reserve.ensures.items c.index_mut-low.ensures.value in
    omega (arith, v.ok.0, size_is chunk_items cs _ v c.requires.is_chunk e, c.requires.full)

pub returns-clause-items : goal.returns-clause-items
returns-clause-items g c =
    let cs = c.args.self.now.chunks.items in
    let k = c.args.chunk in
    let v = c.index_mut-low.result.now in
    let low = c.split_off.new.self in
    let high = c.in_ok-high.high in
    let e : v ≡ get_or cs k v = subst (λ xs. v ≡ get_or xs k v) c.in_ok-reserve.ensures.items c.index_mut-low.ensures.value in
    let halves : v.items ≡ low.items ++ high.items = sym (take-append-drop 16 v.items) ∙ (λ i. sym c.in_ok-high.ensures.items i ++ sym c.in_ok-high.ensures.tail i) in
    ap (joined chunk_items) (c.put_in_room.ensures ∙ ap (λ xs. insert (set xs k low) (k + 1) high) c.in_ok-reserve.ensures.items)
    ∙ joined_cut chunk_items cs k low high v c.requires.is_chunk e halves

pub returns-clause-whole : goal.returns-clause-whole
returns-clause-whole g c =
    let cs = c.args.self.now.chunks.items in
    let k = c.args.chunk in
    let n = c.args.self.now.len in
    let v = c.index_mut-low.result.now in
    let low = c.split_off.new.self in
    let high = c.in_ok-high.high in
    let e : v ≡ get_or cs k v = subst (λ xs. v ≡ get_or xs k v) c.in_ok-reserve.ensures.items c.index_mut-low.ensures.value in
    let halves : v.items ≡ low.items ++ high.items = sym (take-append-drop 16 v.items) ∙ (λ i. sym c.in_ok-high.ensures.items i ++ sym c.in_ok-high.ensures.tail i) in
    let cut : c.put_in_room.new.list.items ≡ insert (set cs k low) (k + 1) high = c.put_in_room.ensures ∙ ap (λ xs. insert (set xs k low) (k + 1) high) c.in_ok-reserve.ensures.items in
    let size = size_is chunk_items cs k v c.requires.is_chunk e in
    let low_some : HasItems low = omega (arith, c.in_ok-high.ensures.len, low.ok.0) in
    let high_some : HasItems high = omega (arith, c.in_ok-high.ensures.tail_len, high.ok.0, v.ok.0, c.requires.full) in
    record {
      some = c.requires.whole.some;
      chunks = subst (λ xs. AreParts chunk_items HasItems xs n) (sym cut) (parts_cut chunk_items HasItems cs n k low high v c.requires.is_chunk e halves low_some high_some c.requires.whole.chunks);
    }
