use Rattle.std.proofs.Common.{◌≡◌, ◌+◌, ◌-◌, ◌/◌, ◌<◌, ◌^◌, true, false, length, refl, sym, ap, ◌∙◌, subst, arith}
use borrow.Author.Rules.{of_calls}
use Rattle.std.proofs.slice.Orders.{answers_next}
use Rattle.std.proofs.lemmas.Fn.{called}
use Rattle.std.specs.List.Sorted.{IsSearchInRange, IsBinarySearchResult}
use Rattle.std.specs.Ordering.{is_gt}
use Rattle.chunked_list.specs.Items.{block_items, items, IsBlock}
use Rattle.chunked_list.specs.Parts.{before, moved}
use Rattle.chunked_list.proofs.Parts.{part_is, size_is, end_within, in_range_more, moved_in_range}
use Rattle.chunked_list.proofs.Search.{Between, lower, upper, moved_in}
use Rattle.chunked_list.proofs.list.ChunkedList.search.Goals as goal

pub loop-high-preserved-then-is_gt : goal.loop-high-preserved-then-is_gt
loop-high-preserved-then-is_gt g c =
    let bs = c.args.self.now.blocks.items in
    let l = c.loop-high in
    let middle = l.low + (l.high - l.low) / 2 in
    let v = c.index.result.now in
    let x = c.item.result.now in
    let inside : middle < length bs = omega arith in
    let met = called g.F.FnMut c.order.ensures refl in
    record {
      some = omega arith;
      within = omega arith;
      callable = search of_calls;
      between = λ by computes.
          let so_far = l.invariant.between by computes in
          let answer = answers_next g.F.FnMut _ _ _ _ _ met so_far.0 in
          let gt : is_gt (by x) ≡ true = ap is_gt (sym answer.0) ∙ sym c.if-is_gt.ensures in
          (answer.1, lower block_items by bs l.low l.high middle v x inside c.index.ensures c.item.ensures gt so_far.1);
    }

pub loop-high-preserved : goal.loop-high-preserved
loop-high-preserved g c =
    let bs = c.args.self.now.blocks.items in
    let l = c.loop-high in
    let middle = l.low + (l.high - l.low) / 2 in
    let v = c.index.result.now in
    let x = c.item.result.now in
    let inside : middle < length bs = omega arith in
    let met = called g.F.FnMut c.order.ensures refl in
    record {
      some = omega arith;
      within = l.invariant.within;
      callable = search of_calls;
      between = λ by computes.
          let so_far = l.invariant.between by computes in
          let answer = answers_next g.F.FnMut _ _ _ _ _ met so_far.0 in
          let le : is_gt (by x) ≡ false = ap is_gt (sym answer.0) ∙ sym c.if-is_gt.ensures in
          (answer.1, upper block_items by bs l.low l.high middle v x inside c.index.ensures c.item.ensures le so_far.1);
    }

pub moved-requires : goal.moved-requires
moved-requires g c =
    let bs = c.args.self.now.blocks.items in
    let k = c.loop-high.low in
    let v = c.index-2.result.now in
    let inside : k < length bs = omega arith in
    let reach : before block_items bs k + length (block_items v) < 2 ^ 64 = omega (arith, size_is block_items bs k v inside c.index-2.ensures, end_within block_items bs k inside, c.requires.whole.counted) in
    in_range_more c.binary_search_by.result (length (block_items v)) _ (omega (arith, c.before-before.ensures)) c.binary_search_by.ensures.bound

pub returns-clause-bound : goal.returns-clause-bound
returns-clause-bound g c =
    let bs = c.args.self.now.blocks.items in
    let k = c.loop-high.low in
    let v = c.index-2.result.now in
    let r = c.binary_search_by.result in
    let inside : k < length bs = omega arith in
    subst (λ s. IsSearchInRange s (length (items c.args.self.now))) (sym c.moved.ensures)
    (moved_in_range r c.before-before.result (length (block_items v)) _ (omega (arith, c.before-before.ensures, size_is block_items bs k v inside c.index-2.ensures, end_within block_items bs k inside)) c.binary_search_by.ensures.bound)

pub returns-clause-position : goal.returns-clause-position
returns-clause-position g c = λ by computes.
    let bs = c.args.self.now.blocks.items in
    let k = c.loop-high.low in
    let v = c.index-2.result.now in
    let r = c.binary_search_by.result in
    let inside : k < length bs = omega arith in
    let block : IsBlock v = part_is block_items IsBlock bs _ k v inside c.index-2.ensures c.requires.whole in
    let so_far = c.loop-high.invariant.between by computes in
    let last : c.loop-high.high ≡ k + 1 = omega arith in
    subst (IsBinarySearchResult by (items c.args.self.now)) (sym (c.moved.ensures ∙ ap (moved r) c.before-before.ensures))
    (moved_in block_items by bs k v inside c.index-2.ensures r (omega (arith, block.some, block.chunks.counted)) c.binary_search_by.ensures.bound (subst (Between block_items by bs k) last so_far.1) (c.binary_search_by.ensures.position by so_far.0))
