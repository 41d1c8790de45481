use Rattle.rocks_constraint.proofs.LawLemmas.{at_least, at_most, exclusive}
use Rattle.rocks_constraint.proofs.laws.comparisons_exclude.Goals as goal

pub returns-clause-exclusive : goal.returns-clause-exclusive
returns-clause-exclusive c = exclusive

pub returns-clause-at_most : goal.returns-clause-at_most
returns-clause-at_most c = at_most

pub returns-clause-at_least : goal.returns-clause-at_least
returns-clause-at_least c = at_least
