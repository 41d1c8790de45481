use Rattle.tree_sets.proofs.NeedsMet.{meets, among}
use Rattle.tree_sets.proofs.laws.needs_are_met.Goals as goal

pub returns-clause-meets : goal.returns-clause-meets
returns-clause-meets c = meets

pub returns-clause-among : goal.returns-clause-among
returns-clause-among c = among
