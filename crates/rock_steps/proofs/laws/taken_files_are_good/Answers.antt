use Rattle.rock_steps.proofs.GoodFiles.{taken_are_good}
use Rattle.rock_steps.proofs.laws.taken_files_are_good.Goals as goal

pub returns : goal.returns
returns c = taken_are_good
