use Rattle.providers.proofs.Entries.{one_list_only}
use Rattle.providers.proofs.laws.one_list.Goals as goal

pub returns : goal.returns
returns c = one_list_only
