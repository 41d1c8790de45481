use Rattle.tree_model.proofs.OwnPaths.{own_paths}
use Rattle.tree_model.proofs.laws.a_rock_has_own_paths.Goals as goal

pub returns : goal.returns
returns c = own_paths
