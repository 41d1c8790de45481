use Rattle.rocks_command.proofs.Rooting.{are_rooted, are_read}
use Rattle.rocks_command.proofs.laws.words_are_rooted.Goals as goal

pub returns : goal.returns
returns c = λ words parts. (are_rooted words parts, are_read words parts)
