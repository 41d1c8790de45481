use Rattle.rocks_session.proofs.InOrder.{in_order}
use Rattle.rocks_session.proofs.add.join.Goals as goal

pub rock_manifest_text-requires : goal.rock_manifest_text-requires
rock_manifest_text-requires g c = in_order c.args.rock.now c.requires.paths
