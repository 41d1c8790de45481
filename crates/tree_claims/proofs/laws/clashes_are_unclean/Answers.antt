use Rattle.tree_claims.proofs.ClashLaws.{one_clash}
use Rattle.tree_claims.proofs.laws.clashes_are_unclean.Goals as goal

pub returns-clause-one : goal.returns-clause-one
returns-clause-one c = one_clash
