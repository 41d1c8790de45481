use Rattle.std.proofs.Common.{◌≡◌, ◌+◌, ◌-◌, ◌/◌, ◌^◌, ◌<◌, true, false, take, length, refl, sym, ap, ◌∙◌, subst, arith}
use borrow.Author.Rules.{of_calls}
use Rattle.std.proofs.slice.Orders.{answers_next}
use Rattle.std.proofs.lemmas.Fn.{called}
use Rattle.std.specs.List.{sum_by}
use Rattle.std.specs.List.Sorted.{IsSearchInRange, IsBinarySearchResult}
use Rattle.std.specs.Ordering.{is_gt}
use Rattle.chunked_list.specs.Items.{chunk_items, block_items, HasItems}
use Rattle.chunked_list.specs.Parts.{before, moved}
use Rattle.chunked_list.proofs.Chunks.{len_of, sum_by-chunks, before-take}
use Rattle.chunked_list.proofs.Parts.{part_is, size_is, end_within, some_at, in_range_more, moved_in_range}
use Rattle.chunked_list.proofs.Search.{Between, lower, upper, moved_in}
use Rattle.chunked_list.proofs.block.Block.binary_search_by.Goals as goal

pub loop-high-preserved-then-is_gt : goal.loop-high-preserved-then-is_gt
loop-high-preserved-then-is_gt g c =
    let cs = c.args.self.now.chunks.items in
    let l = c.loop-high in
    let middle = l.low + (l.high - l.low) / 2 in
    let v = c.index.result.now in
    let x = c.index-in-loop-high.result.now in
    let inside : middle < length cs = omega arith in
    let some : HasItems v = part_is chunk_items HasItems cs _ middle v inside c.index.ensures c.requires.whole.chunks in
    let met = called g.F.FnMut c.order.ensures refl in
    record {
      some = omega arith;
      within = omega arith;
      callable = search of_calls;
      between = λ by computes.
          let so_far = l.invariant.between by computes in
          let answer = answers_next g.F.FnMut _ _ _ _ _ met so_far.0 in
          let gt : is_gt (by x) ≡ true = ap is_gt (sym answer.0) ∙ sym c.if-is_gt.ensures in
          (answer.1, lower chunk_items by cs l.low l.high middle v x inside c.index.ensures (some_at v.items 0 x some c.index-in-loop-high.ensures) gt so_far.1);
    }

pub loop-high-preserved : goal.loop-high-preserved
loop-high-preserved g c =
    let cs = c.args.self.now.chunks.items in
    let l = c.loop-high in
    let middle = l.low + (l.high - l.low) / 2 in
    let v = c.index.result.now in
    let x = c.index-in-loop-high.result.now in
    let inside : middle < length cs = omega arith in
    let some : HasItems v = part_is chunk_items HasItems cs _ middle v inside c.index.ensures c.requires.whole.chunks in
    let met = called g.F.FnMut c.order.ensures refl in
    record {
      some = omega arith;
      within = l.invariant.within;
      callable = search of_calls;
      between = λ by computes.
          let so_far = l.invariant.between by computes in
          let answer = answers_next g.F.FnMut _ _ _ _ _ met so_far.0 in
          let le : is_gt (by x) ≡ false = ap is_gt (sym answer.0) ∙ sym c.if-is_gt.ensures in
          (answer.1, upper chunk_items by cs l.low l.high middle v x inside c.index.ensures (some_at v.items 0 x some c.index-in-loop-high.ensures) le so_far.1);
    }

pub total_len-before-requires : goal.total_len-before-requires
total_len-before-requires g c =
    let cs = c.args.self.now.chunks.items in
    let k = c.loop-high.low in
    subst (λ xs. sum_by len_of (take k xs) < 2 ^ 64) (sym c.deref.ensures.value)
    (omega (arith, sum_by-chunks (take k cs), before-take cs k, end_within chunk_items cs k (omega arith), c.requires.whole.chunks.counted))

pub moved-requires : goal.moved-requires
moved-requires g c =
    let cs = c.args.self.now.chunks.items in
    let k = c.loop-high.low in
    let v = c.index-2.result.now in
    let inside : k < length cs = omega arith in
    let start : c.total_len-before.result ≡ before chunk_items cs k = c.total_len-before.ensures ∙ ap (λ xs. sum_by len_of (take k xs)) c.deref.ensures.value ∙ sum_by-chunks (take k cs) ∙ before-take cs k in
    let reach : before chunk_items cs k + length v.items < 2 ^ 64 = omega (arith, size_is chunk_items cs k v inside c.index-2.ensures, end_within chunk_items cs k inside, c.requires.whole.chunks.counted) in
    let range : IsSearchInRange c.binary_search_by.result (length v.items) = subst (λ xs. IsSearchInRange c.binary_search_by.result (length xs)) c.deref-2.ensures.value c.binary_search_by.ensures.bound in
    in_range_more c.binary_search_by.result (length v.items) _ (omega arith) range

pub returns-clause-bound : goal.returns-clause-bound
returns-clause-bound g c =
    let cs = c.args.self.now.chunks.items in
    let k = c.loop-high.low in
    let v = c.index-2.result.now in
    let r = c.binary_search_by.result in
    let inside : k < length cs = omega arith in
    let start : c.total_len-before.result ≡ before chunk_items cs k = c.total_len-before.ensures ∙ ap (λ xs. sum_by len_of (take k xs)) c.deref.ensures.value ∙ sum_by-chunks (take k cs) ∙ before-take cs k in
    let range : IsSearchInRange r (length v.items) = subst (λ xs. IsSearchInRange r (length xs)) c.deref-2.ensures.value c.binary_search_by.ensures.bound in
    subst (λ s. IsSearchInRange s (length (block_items c.args.self.now))) (sym c.moved.ensures)
    (moved_in_range r c.total_len-before.result (length v.items) _ (omega (arith, size_is chunk_items cs k v inside c.index-2.ensures, end_within chunk_items cs k inside)) range)

pub returns-clause-position : goal.returns-clause-position
returns-clause-position g c = λ by computes.
    let cs = c.args.self.now.chunks.items in
    let k = c.loop-high.low in
    let v = c.index-2.result.now in
    let r = c.binary_search_by.result in
    let inside : k < length cs = omega arith in
    let start : c.total_len-before.result ≡ before chunk_items cs k = c.total_len-before.ensures ∙ ap (λ xs. sum_by len_of (take k xs)) c.deref.ensures.value ∙ sum_by-chunks (take k cs) ∙ before-take cs k in
    let some : HasItems v = part_is chunk_items HasItems cs _ k v inside c.index-2.ensures c.requires.whole.chunks in
    let range : IsSearchInRange r (length v.items) = subst (λ xs. IsSearchInRange r (length xs)) c.deref-2.ensures.value c.binary_search_by.ensures.bound in
    let so_far = c.loop-high.invariant.between by computes in
    let last : c.loop-high.high ≡ k + 1 = omega arith in
    let found : IsBinarySearchResult by v.items r = subst (λ xs. IsBinarySearchResult by xs r) c.deref-2.ensures.value (c.binary_search_by.ensures.position by so_far.0) in
    subst (IsBinarySearchResult by (block_items c.args.self.now)) (sym (c.moved.ensures ∙ ap (moved r) start))
    (moved_in chunk_items by cs k v inside c.index-2.ensures r some range (subst (Between chunk_items by cs k) last so_far.1) found)
