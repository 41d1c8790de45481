use Rattle.std.proofs.Common.{rules, subst, ◌∙◌, List}
use Rattle.std.specs.List.Sorted.{IsPermutation}
use Rattle.rocks_text.specs.declared.item.Item.{Item}
use Rattle.rocks_text.specs.contracts.item.ItemOrd.TheImpl as impl
use Rattle.tree_claims.proofs.ItemOrder.{one_order, sorted_alike}
use Rattle.tree_claims.proofs.claims.in_order.Goals as goal

pub returns : goal.returns
returns c =
    c.from_vec.ensures ∙ one_order c.args.items.now c.sort.new.self.items
    (subst (λ (l : List Item). IsPermutation l c.sort.new.self.items) c.in_ok-sorted.ensures c.in_ok-sort.ensures.permutation)
    (sorted_alike impl.ghosts.cmp c.sort.new.self.items (λ x y. search rules) c.in_ok-sort.ensures.sorted)
