use Rattle.rocks_version.proofs.OrderLaws.{cmp_reflexive, cmp_reversed, cmp_transitive, rank_refined}
use Rattle.rocks_version.proofs.laws.comparison_is_a_preorder.Goals as goal

pub returns-clause-reflexive : goal.returns-clause-reflexive
returns-clause-reflexive c = cmp_reflexive

pub returns-clause-reversed : goal.returns-clause-reversed
returns-clause-reversed c = cmp_reversed

pub returns-clause-transitive : goal.returns-clause-transitive
returns-clause-transitive c = cmp_transitive

pub returns-clause-refined : goal.returns-clause-refined
returns-clause-refined c = rank_refined
