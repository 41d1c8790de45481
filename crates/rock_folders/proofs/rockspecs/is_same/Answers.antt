use Rattle.rock_folders.proofs.RockspecTests.{same_key}
use Rattle.rock_folders.proofs.rockspecs.is_same.Goals as goal

pub returns : goal.returns
returns c = same_key c.args.left.now c.args.right.now c.eq.result c.eq.ensures
