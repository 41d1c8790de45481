use Rattle.tree_sets.proofs.OwnPaths.{own_paths}
use Rattle.tree_sets.proofs.laws.files_have_own_paths.Goals as goal

pub returns : goal.returns
returns c = own_paths
