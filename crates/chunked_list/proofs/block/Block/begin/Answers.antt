use Rattle.std.proofs.Common.{◌≡◌, ◌+◌, ◌++◌, length, ap, ◌∙◌, sym, subst, arith}
use Rattle.chunked_list.specs.Items.{chunk_items, block_items, HasItems}
use Rattle.chunked_list.specs.Parts.{joined, AreParts}
use Rattle.chunked_list.proofs.Parts.{joined_push, parts_push}
use Rattle.chunked_list.proofs.block.Block.begin.Goals as goal

pub returns-clause-ok : goal.returns-clause-ok
returns-clause-ok g c =
    ap (joined chunk_items) c.in_ok-push.ensures.items
    ∙ joined_push chunk_items c.args.self.now.chunks.items c.in_ok-chunk.chunk
    ∙ ap (λ xs. block_items c.args.self.now ++ xs) c.in_ok-chunk.ensures

pub returns-clause-whole : goal.returns-clause-whole
returns-clause-whole g c =
    let cs = c.args.self.now.chunks.items in
    let w = c.in_ok-chunk.chunk in
    let n = c.args.self.now.len in
    let one : length w.items ≡ 1 = ap length c.in_ok-chunk.ensures in
    record {
      some = omega arith;
      chunks = subst (λ xs. AreParts chunk_items HasItems xs (n + 1)) (sym c.in_ok-push.ensures.items) (parts_push chunk_items HasItems cs n (n + 1) w (omega arith) (omega arith) c.requires.whole.chunks);
    }
