use Rattle.std.proofs.Common.{rules}
use Rattle.rocks_outside.proofs.Held.{files_of-empty}
use Rattle.rocks_outside.proofs.memory_device.MemoryDevice.new.Goals as goal

pub returns : goal.returns
returns c = rw (files_of-empty c.new.result c.new.ensures.empty) (search rules)
