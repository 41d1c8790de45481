use Rattle.tree_model.proofs.Provided.{none_held}
use Rattle.tree_model.proofs.index.Index.new.Goals as goal

pub invariant_of-result : goal.invariant_of-result
invariant_of-result c = none_held c.new.result.items c.new-2.result c.new.ensures.items c.new-2.ensures
