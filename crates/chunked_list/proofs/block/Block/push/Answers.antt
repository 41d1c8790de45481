use Rattle.std.proofs.Common.{◌≡◌, ◌+◌, ◌-◌, ◌<◌, length, ap, arith}
use Rattle.chunked_list.specs.Items.{chunk_items, HasItems}
use Rattle.chunked_list.proofs.Parts.{on_err, is_part, part_is, joined_last, joined_same, parts_with}
use Rattle.chunked_list.proofs.block.Block.push.Goals as goal

pub returns-clause-ok : goal.returns-clause-ok
returns-clause-ok g c =
    let cs = c.args.self.now.chunks.items in
    let v = c.index_mut-chunk.result.now in
    let w = c.push.new.self in
    let k = c.len-last.result - 1 in
    let is : 0 < length cs = is_part chunk_items cs 0 0 0 (omega arith) (omega (arith, c.requires.whole.some, c.requires.whole.chunks.counted)) in
    let end : k + 1 ≡ length cs = omega (arith, c.args.self.now.chunks.ok.0) in
    joined_last chunk_items cs k v w _ end c.index_mut-chunk.ensures.value c.in_ok-push.ensures.items

pub returns-clause-whole : goal.returns-clause-whole
returns-clause-whole g c =
    let cs = c.args.self.now.chunks.items in
    let v = c.index_mut-chunk.result.now in
    let w = c.push.new.self in
    let k = c.len-last.result - 1 in
    let n = c.args.self.now.len in
    let is : 0 < length cs = is_part chunk_items cs 0 0 0 (omega arith) (omega (arith, c.requires.whole.some, c.requires.whole.chunks.counted)) in
    let end : k + 1 ≡ length cs = omega (arith, c.args.self.now.chunks.ok.0) in
    let more : length w.items ≡ length v.items + 1 = omega (arith, c.in_ok-push.ensures.len, v.ok.0, w.ok.0) in
    record {
      some = omega arith;
      chunks = parts_with chunk_items HasItems cs n (n + 1) k v w (omega arith) c.index_mut-chunk.ensures.value (omega arith) (omega arith) c.requires.whole.chunks;
    }

pub returns-in_err-push-clause-err : goal.returns-in_err-push-clause-err
returns-in_err-push-clause-err g c =
    let cs = c.args.self.now.chunks.items in
    let is : 0 < length cs = is_part chunk_items cs 0 0 0 (omega arith) (omega (arith, c.requires.whole.some, c.requires.whole.chunks.counted)) in
    let lt : c.len-last.result - 1 < length cs = omega (arith, c.args.self.now.chunks.ok.0) in
    on_err c.from_residual.result (joined_same chunk_items cs _ c.index_mut-chunk.result.now lt c.index_mut-chunk.ensures.value c.push.new.self c.in_err-push.ensures.items)

pub returns-in_err-push-clause-whole : goal.returns-in_err-push-clause-whole
returns-in_err-push-clause-whole g c =
    let cs = c.args.self.now.chunks.items in
    let v = c.index_mut-chunk.result.now in
    let w = c.push.new.self in
    let n = c.args.self.now.len in
    let is : 0 < length cs = is_part chunk_items cs 0 0 0 (omega arith) (omega (arith, c.requires.whole.some, c.requires.whole.chunks.counted)) in
    let lt : c.len-last.result - 1 < length cs = omega (arith, c.args.self.now.chunks.ok.0) in
    let e = c.index_mut-chunk.ensures.value in
    let same : length w.items ≡ length v.items = ap length c.in_err-push.ensures.items in
    let some : HasItems v = part_is chunk_items HasItems cs n _ v lt e c.requires.whole.chunks in
    record { some = c.requires.whole.some; chunks = parts_with chunk_items HasItems cs n n _ v w lt e (omega (arith, some)) (omega arith) c.requires.whole.chunks }
