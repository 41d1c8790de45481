use Rattle.tree_claims.proofs.ItemOrder.{same_items, items_sorted, one_order}
use Rattle.tree_claims.proofs.laws.items_have_one_order.Goals as goal

pub returns-clause-same : goal.returns-clause-same
returns-clause-same c = same_items

pub returns-clause-in_order : goal.returns-clause-in_order
returns-clause-in_order c = items_sorted

pub returns-clause-one : goal.returns-clause-one
returns-clause-one c = one_order
