use Rattle.rock_steps.proofs.GoodFiles.{built_are_good}
use Rattle.rock_steps.proofs.laws.built_files_are_good.Goals as goal

pub returns : goal.returns
returns c = built_are_good
