use Rattle.tree_claims.proofs.RockSets.{listed_with, listed_without}
use Rattle.tree_claims.proofs.laws.changed_sets_are_listed.Goals as goal

pub returns-clause-added : goal.returns-clause-added
returns-clause-added c = listed_with

pub returns-clause-dropped : goal.returns-clause-dropped
returns-clause-dropped c = listed_without
