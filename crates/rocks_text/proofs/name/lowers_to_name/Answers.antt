use Rattle.std.proofs.Common.{rules}
use Rattle.rocks_text.proofs.Lowered.{lowered_name}
use Rattle.rocks_text.proofs.name.lowers_to_name.Goals as goal

pub returns-then-lower_to_name_bytes : goal.returns-then-lower_to_name_bytes
returns-then-lower_to_name_bytes c = rw (lowered_name c.args.text.now) (search rules)

pub returns-else-lower_to_name_bytes : goal.returns-else-lower_to_name_bytes
returns-else-lower_to_name_bytes c = rw (lowered_name c.args.text.now) (search rules)
