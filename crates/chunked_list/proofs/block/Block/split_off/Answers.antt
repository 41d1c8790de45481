use Rattle.std.proofs.Common.{◌-◌, ◌++◌, ◌≤◌, ◌<◌, ◌^◌, length, take, drop, ap, ◌∙◌, sym, subst, arith, length-append}
use Rattle.std.proofs.lemmas.List.{length-take-le, length-drop}
use Rattle.std.proofs.lemmas.List.Elements.{All-take, All-drop}
use Rattle.std.specs.List.{sum_by}
use Rattle.chunked_list.specs.Items.{chunk_items, HasItems}
use Rattle.chunked_list.specs.Parts.{joined, AreParts}
use Rattle.chunked_list.proofs.Chunks.{len_of, sum_by-chunks}
use Rattle.chunked_list.proofs.Parts.{joined-take-drop, some_items}
use Rattle.chunked_list.proofs.block.Block.split_off.Goals as goal

pub total_len-self-requires : goal.total_len-self-requires
total_len-self-requires g c =
    let cs = c.args.self.now.chunks.items in
    let whole = ap length (joined-take-drop chunk_items 128 cs) ∙ length-append (joined chunk_items (take 128 cs)) (joined chunk_items (drop 128 cs)) in
    subst (λ xs. sum_by len_of xs < 2 ^ 64) (sym (c.deref.ensures.value ∙ c.in_ok-chunks.ensures.items))
    (omega (arith, sum_by-chunks (take 128 cs), c.requires.whole.chunks.counted))

pub overflow_sub-result : goal.overflow_sub-result
overflow_sub-result g c =
    let cs = c.args.self.now.chunks.items in
    let whole = ap length (joined-take-drop chunk_items 128 cs) ∙ length-append (joined chunk_items (take 128 cs)) (joined chunk_items (drop 128 cs)) in
    let len = c.total_len-self.ensures ∙ ap (sum_by len_of) (c.deref.ensures.value ∙ c.in_ok-chunks.ensures.items) ∙ sum_by-chunks (take 128 cs) in
    omega (arith, c.requires.whole.chunks.counted)

pub returns-clause-ok : goal.returns-clause-ok
returns-clause-ok g c =
    joined-take-drop chunk_items 128 c.args.self.now.chunks.items
    ∙ (λ i. joined chunk_items (sym c.in_ok-chunks.ensures.items i) ++ joined chunk_items (sym c.in_ok-chunks.ensures.tail i))

pub returns-clause-whole : goal.returns-clause-whole
returns-clause-whole g c =
    let cs = c.args.self.now.chunks.items in
    let low = take 128 cs in
    let len = c.total_len-self.ensures ∙ ap (sum_by len_of) (c.deref.ensures.value ∙ c.in_ok-chunks.ensures.items) ∙ sum_by-chunks low in
    let each = All-take HasItems 128 cs c.requires.whole.chunks.each in
    let many : 128 ≤ length cs = omega (arith, c.requires.full) in
    let some = some_items chunk_items low (omega (arith, length-take-le 128 cs many)) each in
    record { some = omega arith; chunks = subst (λ xs. AreParts chunk_items HasItems xs c.total_len-self.result) (sym c.in_ok-chunks.ensures.items) (record { each = each; counted = len }) }

pub returns-clause-upper_whole : goal.returns-clause-upper_whole
returns-clause-upper_whole g c =
    let cs = c.args.self.now.chunks.items in
    let high = drop 128 cs in
    let whole = ap length (joined-take-drop chunk_items 128 cs) ∙ length-append (joined chunk_items (take 128 cs)) (joined chunk_items high) in
    let len = c.total_len-self.ensures ∙ ap (sum_by len_of) (c.deref.ensures.value ∙ c.in_ok-chunks.ensures.items) ∙ sum_by-chunks (take 128 cs) in
    let each = All-drop HasItems 128 cs c.requires.whole.chunks.each in
    let some = some_items chunk_items high (omega (arith, c.requires.full, length-drop 128 cs)) each in
    record {
      some = omega (arith, c.requires.whole.chunks.counted);
      chunks = subst (λ xs. AreParts chunk_items HasItems xs (c.args.self.now.len - c.total_len-self.result)) (sym c.in_ok-chunks.ensures.tail) (record { each = each; counted = omega (arith, c.requires.whole.chunks.counted) });
    }
