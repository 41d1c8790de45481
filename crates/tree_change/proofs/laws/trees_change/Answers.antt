use Rattle.tree_change.proofs.Performed.{trees_of_files}
use Rattle.tree_change.proofs.laws.trees_change.Goals as goal

pub returns : goal.returns
returns c = trees_of_files
