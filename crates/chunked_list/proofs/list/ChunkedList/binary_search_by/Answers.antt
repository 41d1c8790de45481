use Rattle.std.proofs.Common.{◌≡◌, ◌+◌, ◌-◌, true, Err, length, refl, sym, ap, ◌∙◌, subst, arith}
use Rattle.std.proofs.slice.Orders.{answers_next}
use Rattle.std.proofs.lemmas.Fn.{called}
use Rattle.std.specs.List.Sorted.{IsBinarySearchResult}
use Rattle.std.specs.Ordering.{is_lt}
use Rattle.chunked_list.specs.Items.{block_items, items}
use Rattle.chunked_list.proofs.Parts.{last_in}
use Rattle.chunked_list.proofs.Search.{behind_all}
use Rattle.chunked_list.proofs.list.ChunkedList.binary_search_by.Goals as goal

pub returns-then-is_lt-clause-position : goal.returns-then-is_lt-clause-position
returns-then-is_lt-clause-position g c = λ by computes.
    let bs = c.args.self.now.blocks.items in
    let k = c.len-end.result - 1 in
    let x = c.last.result.now in
    let end : k + 1 ≡ length bs = omega (arith, c.args.self.now.blocks.ok.0) in
    let answer = answers_next g.F.FnMut _ _ _ _ _ (called g.F.FnMut c.order.ensures refl) computes in
    let lt : is_lt (by x) ≡ true = ap is_lt (sym answer.0) ∙ sym c.if-is_lt.ensures in
    let last = last_in block_items bs k c.index.result.now (omega arith) c.index.ensures x end c.last.ensures.some c.last.ensures.last in
    subst (λ n. IsBinarySearchResult by (items c.args.self.now) (Err n)) (sym c.requires.whole.counted) (behind_all by (items c.args.self.now) x last lt)

pub returns-clause-position : goal.returns-clause-position
returns-clause-position g c = λ by computes.
    let answer = answers_next g.F.FnMut _ _ _ _ _ (called g.F.FnMut c.order.ensures refl) computes in
    c.search.ensures.position by answer.1
