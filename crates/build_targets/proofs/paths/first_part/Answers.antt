use Rattle.std.proofs.Common.{sym, rules}
use Rattle.build_targets.proofs.PathBytes.{first_part_all, first_part_at}
use Rattle.build_targets.proofs.paths.first_part.Goals as goal

pub returns-in-Some : goal.returns-in-Some
returns-in-Some c = sym (first_part_at c.args.path.now c.in-Some.slash (search rules) (search rules) (search rules))

pub returns-in-None : goal.returns-in-None
returns-in-None c = sym (first_part_all c.args.path.now (search rules))
