use Rattle.rock_folders.proofs.RockspecTests.{kept_is}
use Rattle.rock_folders.proofs.rockspecs.rockspec_from.Goals as goal

pub returns-in-Ok : goal.returns-in-Ok
returns-in-Ok c = kept_is c.args.key.now c.args.bytes.now c.in-Ok.spec c.kept.result c.in-Ok.ensures.spec c.kept.ensures
