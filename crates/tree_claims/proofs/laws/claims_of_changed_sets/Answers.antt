use Rattle.tree_claims.proofs.RockSets.{added_from, added_has, dropped_from}
use Rattle.tree_claims.proofs.laws.claims_of_changed_sets.Goals as goal

pub returns-clause-added : goal.returns-clause-added
returns-clause-added c = λ rocks key items claim. (added_from rocks key items claim, added_has rocks key items claim)

pub returns-clause-dropped : goal.returns-clause-dropped
returns-clause-dropped c = dropped_from
