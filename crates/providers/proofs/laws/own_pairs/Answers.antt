use Rattle.providers.proofs.Entries.{own_providers}
use Rattle.providers.proofs.laws.own_pairs.Goals as goal

pub returns : goal.returns
returns c = own_providers
