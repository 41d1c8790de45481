use Rattle.std.proofs.Common.{rules}
use Rattle.rocks_outside.proofs.Held.{get-files_of}
use Rattle.rocks_outside.proofs.memory_device.bytes_at.Goals as goal

pub returns-in_ok-from_slice-in-Some : goal.returns-in_ok-from_slice-in-Some
returns-in_ok-from_slice-in-Some c = rw get-files_of (search rules)

pub returns-in-None : goal.returns-in-None
returns-in-None c = rw get-files_of (search rules)
