use Rattle.tree_change.proofs.Added.{entries_changed}
use Rattle.tree_change.proofs.laws.entries_change.Goals as goal

pub returns : goal.returns
returns c = entries_changed
