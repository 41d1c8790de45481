use Rattle.rocks_constraint.proofs.LawLemmas.{same_meets}
use Rattle.rocks_constraint.proofs.laws.meets_by_components.Goals as goal

pub returns : goal.returns
returns c = same_meets
