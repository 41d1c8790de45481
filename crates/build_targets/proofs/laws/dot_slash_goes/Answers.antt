use Rattle.build_targets.proofs.DotSlash.{dotted_meaning}
use Rattle.build_targets.proofs.laws.dot_slash_goes.Goals as goal

pub returns : goal.returns
returns c = dotted_meaning c.args.listing c.args.key.now c.args.file.now c.requires
