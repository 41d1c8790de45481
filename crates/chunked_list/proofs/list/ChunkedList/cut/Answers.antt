use Rattle.std.proofs.Common.{◌≡◌, ◌+◌, get_or, set, length, ap, ◌∙◌, sym, subst, arith}
use Rattle.std.specs.List.{insert}
use Rattle.chunked_list.specs.Items.{block_items, IsBlock}
use Rattle.chunked_list.specs.Parts.{joined, AreParts}
use Rattle.chunked_list.proofs.Parts.{joined_same, joined_cut, parts_with, parts_cut}
use Rattle.chunked_list.proofs.list.ChunkedList.cut.Goals as goal

pub returns-clause-items : goal.returns-clause-items
returns-clause-items g c =
    let bs = c.args.self.now.blocks.items in
    let k = c.args.block in
    let v = c.index_mut-low.result.now in
    let low = c.split_off.new.self in
    let high = c.in_ok-high.high in
    let e : v ≡ get_or bs k v = subst (λ xs. v ≡ get_or xs k v) c.in_ok-reserve.ensures.items c.index_mut-low.ensures.value in
    ap (joined block_items) (c.put_in_room.ensures ∙ ap (λ xs. insert (set xs k low) (k + 1) high) c.in_ok-reserve.ensures.items)
    ∙ joined_cut block_items bs k low high v c.requires.is_block e c.in_ok-high.ensures.ok

pub returns-clause-whole : goal.returns-clause-whole
returns-clause-whole g c =
    let bs = c.args.self.now.blocks.items in
    let k = c.args.block in
    let n = c.args.self.now.len in
    let v = c.index_mut-low.result.now in
    let low = c.split_off.new.self in
    let high = c.in_ok-high.high in
    let e : v ≡ get_or bs k v = subst (λ xs. v ≡ get_or xs k v) c.in_ok-reserve.ensures.items c.index_mut-low.ensures.value in
    let cut : c.put_in_room.new.list.items ≡ insert (set bs k low) (k + 1) high = c.put_in_room.ensures ∙ ap (λ xs. insert (set xs k low) (k + 1) high) c.in_ok-reserve.ensures.items in
    subst (λ xs. AreParts block_items IsBlock xs n) (sym cut) (parts_cut block_items IsBlock bs n k low high v c.requires.is_block e c.in_ok-high.ensures.ok c.in_ok-high.ensures.whole c.in_ok-high.ensures.upper_whole c.requires.whole)

pub returns-in_err-high-clause-items : goal.returns-in_err-high-clause-items
returns-in_err-high-clause-items g c =
    let bs = c.args.self.now.blocks.items in
    let k = c.args.block in
    let v = c.index_mut-low.result.now in
    let low = c.split_off.new.self in
    let e : v ≡ get_or bs k v = subst (λ xs. v ≡ get_or xs k v) c.in_ok-reserve.ensures.items c.index_mut-low.ensures.value in
    ap (λ xs. joined block_items (set xs k low)) c.in_ok-reserve.ensures.items
    ∙ joined_same block_items bs k v c.requires.is_block e low c.in_err-high.ensures.err

pub returns-in_err-high-clause-whole : goal.returns-in_err-high-clause-whole
returns-in_err-high-clause-whole g c =
    let bs = c.args.self.now.blocks.items in
    let k = c.args.block in
    let n = c.args.self.now.len in
    let v = c.index_mut-low.result.now in
    let low = c.split_off.new.self in
    let e : v ≡ get_or bs k v = subst (λ xs. v ≡ get_or xs k v) c.in_ok-reserve.ensures.items c.index_mut-low.ensures.value in
    let same : length (block_items low) ≡ length (block_items v) = ap length c.in_err-high.ensures.err in
    subst (λ xs. AreParts block_items IsBlock (set xs k low) n) (sym c.in_ok-reserve.ensures.items) (parts_with block_items IsBlock bs n n k v low c.requires.is_block e c.in_err-high.ensures.whole (omega arith) c.requires.whole)
