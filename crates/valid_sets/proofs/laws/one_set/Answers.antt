use Rattle.valid_sets.proofs.OneSet.{one_set}
use Rattle.valid_sets.proofs.laws.one_set.Goals as goal

pub returns : goal.returns
returns c = one_set
