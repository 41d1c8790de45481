use Rattle.rocks_outside.proofs.Held.{files_of-remove}
use Rattle.rocks_outside.proofs.memory_device.take_away.Goals as goal

pub returns : goal.returns
returns c = files_of-remove _ _ _ c.remove.ensures.updates
