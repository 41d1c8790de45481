use Rattle.rocks_outside.proofs.Held.{files_of-empty}
use Rattle.rocks_outside.proofs.memory_shelf.Server.new.Goals as goal

pub returns : goal.returns
returns c = files_of-empty c.new.result c.new.ensures.empty
