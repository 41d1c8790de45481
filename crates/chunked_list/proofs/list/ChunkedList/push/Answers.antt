use Rattle.std.proofs.Common.{◌≡◌, ◌+◌, ◌-◌, ◌<◌, ◌∷◌, [], length, ap, ◌∙◌, arith, length-append}
use Rattle.chunked_list.specs.Items.{block_items, IsBlock}
use Rattle.chunked_list.proofs.Parts.{on_err, joined_last, joined_same, parts_with}
use Rattle.chunked_list.proofs.list.ChunkedList.push.Goals as goal

pub returns-clause-ok : goal.returns-clause-ok
returns-clause-ok g c =
    let bs = c.args.self.now.blocks.items in
    let k = c.len-end.result - 1 in
    let end : k + 1 ≡ length bs = omega (arith, c.args.self.now.blocks.ok.0) in
    joined_last block_items bs k c.index_mut-last.result.now c.push.new.self _ end c.index_mut-last.ensures.value c.in_ok-push.ensures.ok

pub returns-clause-whole : goal.returns-clause-whole
returns-clause-whole g c =
    let bs = c.args.self.now.blocks.items in
    let v = c.index_mut-last.result.now in
    let w = c.push.new.self in
    let n = c.args.self.now.len in
    let lt : c.len-end.result - 1 < length bs = omega (arith, c.args.self.now.blocks.ok.0) in
    let more : length (block_items w) ≡ length (block_items v) + 1 = ap length c.in_ok-push.ensures.ok ∙ length-append (block_items v) (c.args.item ∷ []) in
    parts_with block_items IsBlock bs n (n + 1) _ v w lt c.index_mut-last.ensures.value c.in_ok-push.ensures.whole (omega arith) c.requires.whole

pub returns-in_err-push-clause-err : goal.returns-in_err-push-clause-err
returns-in_err-push-clause-err g c =
    let bs = c.args.self.now.blocks.items in
    let lt : c.len-end.result - 1 < length bs = omega (arith, c.args.self.now.blocks.ok.0) in
    on_err c.from_residual.result (joined_same block_items bs _ c.index_mut-last.result.now lt c.index_mut-last.ensures.value c.push.new.self c.in_err-push.ensures.err)

pub returns-in_err-push-clause-whole : goal.returns-in_err-push-clause-whole
returns-in_err-push-clause-whole g c =
    let bs = c.args.self.now.blocks.items in
    let v = c.index_mut-last.result.now in
    let w = c.push.new.self in
    let n = c.args.self.now.len in
    let lt : c.len-end.result - 1 < length bs = omega (arith, c.args.self.now.blocks.ok.0) in
    let same : length (block_items w) ≡ length (block_items v) = ap length c.in_err-push.ensures.err in
    parts_with block_items IsBlock bs n n _ v w lt c.index_mut-last.ensures.value c.in_err-push.ensures.whole (omega arith) c.requires.whole
