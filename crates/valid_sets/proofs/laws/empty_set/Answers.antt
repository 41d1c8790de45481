use Rattle.valid_sets.proofs.EmptySet.{none_valid}
use Rattle.valid_sets.proofs.laws.empty_set.Goals as goal

pub returns : goal.returns
returns c = none_valid
