use Rattle.std.proofs.Common.{◌≡◌, ◌+◌, ◌-◌, ◌<◌, length, get_or, subst, arith}
use Rattle.chunked_list.specs.Items.{chunk_items, HasItems}
use Rattle.chunked_list.proofs.Parts.{is_part, part_is, some_at, last_in}
use Rattle.chunked_list.proofs.block.Block.last.Goals as goal

pub returns-clause-last : goal.returns-clause-last
returns-clause-last g c =
    let cs = c.args.self.now.chunks.items in
    let v = c.index-chunk.result.now in
    let x = c.index.result.now in
    let k = c.len.result - 1 in
    let is : 0 < length cs = is_part chunk_items cs 0 0 0 (omega arith) (omega (arith, c.requires.some, c.requires.chunks.counted)) in
    let end : k + 1 ≡ length cs = omega (arith, c.args.self.now.chunks.ok.0) in
    let some : HasItems v = part_is chunk_items HasItems cs _ k v (omega arith) c.index-chunk.ensures c.requires.chunks in
    let at : c.len-2.result - 1 ≡ length v.items - 1 = omega (arith, v.ok.0) in
    last_in chunk_items cs k v (omega arith) c.index-chunk.ensures x end some
    (some_at v.items _ x (omega (arith, some)) (subst (λ i. x ≡ get_or v.items i x) at c.index.ensures))
