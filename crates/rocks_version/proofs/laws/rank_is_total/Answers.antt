use Rattle.rocks_version.proofs.OrderLaws.{rank_reflexive, rank_antisymmetric, rank_transitive, rank_total_law}
use Rattle.rocks_version.proofs.laws.rank_is_total.Goals as goal

pub returns-clause-reflexive : goal.returns-clause-reflexive
returns-clause-reflexive c = rank_reflexive

pub returns-clause-antisymmetric : goal.returns-clause-antisymmetric
returns-clause-antisymmetric c = rank_antisymmetric

pub returns-clause-transitive : goal.returns-clause-transitive
returns-clause-transitive c = rank_transitive

pub returns-clause-total : goal.returns-clause-total
returns-clause-total c = rank_total_law
