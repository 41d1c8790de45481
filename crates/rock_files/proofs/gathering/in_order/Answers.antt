use Rattle.std.proofs.Common.{ℕ, List, rules}
use Rattle.std.specs.Ordering.{is_lt}
use Rattle.std.proofs.lemmas.List.Sorted.{answers_always}
use Rattle.rocks_text.specs.Files.{path_cmp}
use Rattle.rocks_text.specs.Items.{item_cmp}
use Rattle.rocks_text.specs.declared.item.Item.{Item}
use Rattle.rock_files.proofs.Sorting.{item_order, own_order, sorts}
use Rattle.rock_files.proofs.gathering.in_order.Goals as goal

pub returns : goal.returns
returns c =
    sorts c.args.taken.items.items c.sort_by.new.self.items _ c.args.taken.own.items c.sort_by-2.new.self.items _ c.from_vec.ensures c.from_vec-2.ensures
    c.in_ok-sort_by.ensures.permutation
    (c.in_ok-sort_by.ensures.sorted (λ (x : Item × List ℕ) (y : Item × List ℕ). is_lt (item_cmp x.0 y.0)) item_order (answers_always _ _ _ (λ f a r g q. search rules)))
    c.in_ok-sort_by-2.ensures.permutation
    (c.in_ok-sort_by-2.ensures.sorted (λ (x : List ℕ × List ℕ) (y : List ℕ × List ℕ). is_lt (path_cmp x.0 y.0)) own_order (answers_always _ _ _ (λ f a r g q. search rules)))
