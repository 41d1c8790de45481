use Rattle.rockspec.proofs.One.{one_spec}
use Rattle.rockspec.proofs.laws.one_spec.Goals as goal

pub returns : goal.returns
returns c = one_spec
