use Rattle.std.proofs.Common.{◌≡◌, ◌+◌, ◌++◌, length, ap, ◌∙◌, sym, subst, arith}
use Rattle.chunked_list.specs.Items.{block_items, items, IsBlock}
use Rattle.chunked_list.specs.Parts.{joined, AreParts}
use Rattle.chunked_list.proofs.Parts.{joined_push, parts_push}
use Rattle.chunked_list.proofs.list.ChunkedList.begin.Goals as goal

pub returns-clause-ok : goal.returns-clause-ok
returns-clause-ok g c =
    ap (joined block_items) c.in_ok-push.ensures.items
    ∙ joined_push block_items c.args.self.now.blocks.items c.in_ok-block.block
    ∙ ap (λ xs. items c.args.self.now ++ xs) c.in_ok-block.ensures.items

pub returns-clause-whole : goal.returns-clause-whole
returns-clause-whole g c =
    let bs = c.args.self.now.blocks.items in
    let w = c.in_ok-block.block in
    let n = c.args.self.now.len in
    let one : length (block_items w) ≡ 1 = ap length c.in_ok-block.ensures.items in
    subst (λ xs. AreParts block_items IsBlock xs (n + 1)) (sym c.in_ok-push.ensures.items) (parts_push block_items IsBlock bs n (n + 1) w c.in_ok-block.ensures.whole (omega arith) c.requires.whole)
