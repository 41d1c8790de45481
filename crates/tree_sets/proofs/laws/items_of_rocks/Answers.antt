use Rattle.tree_sets.proofs.Providers.{item_from, item_with}
use Rattle.tree_sets.proofs.laws.items_of_rocks.Goals as goal

pub returns : goal.returns
returns c = λ entries item. (item_from entries item, item_with entries item)
