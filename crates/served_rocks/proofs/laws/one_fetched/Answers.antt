use Rattle.served_rocks.proofs.OneFetched.{one_fetched}
use Rattle.served_rocks.proofs.laws.one_fetched.Goals as goal

pub returns : goal.returns
returns c = one_fetched
