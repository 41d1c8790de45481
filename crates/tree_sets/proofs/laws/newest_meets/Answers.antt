use Rattle.tree_sets.proofs.Newest.{newest}
use Rattle.tree_sets.proofs.laws.newest_meets.Goals as goal

pub returns : goal.returns
returns c = newest
