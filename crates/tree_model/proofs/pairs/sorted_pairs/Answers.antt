use Rattle.std.proofs.Common.{rules}
use Rattle.std.proofs.lemmas.List.Sorted.{answers_always}
use Rattle.tree_model.specs.Held.{goes_before}
use Rattle.tree_model.proofs.ItemPairs.{goes_before_order}
use Rattle.tree_model.proofs.pairs.sorted_pairs.Goals as goal

pub returns-clause-in_order : goal.returns-clause-in_order
returns-clause-in_order c = c.in_ok-sort_by.ensures.sorted goes_before goes_before_order (answers_always _ _ _ (λ f a r f' q. search rules))
