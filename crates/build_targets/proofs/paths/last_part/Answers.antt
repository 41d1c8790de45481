use Rattle.std.proofs.Common.{sym, rules}
use Rattle.std.proofs.lemmas.List.{take_rest}
use Rattle.build_targets.proofs.PathBytes.{last_part_all, last_part_at}
use Rattle.build_targets.proofs.paths.last_part.Goals as goal

pub returns-in-Some : goal.returns-in-Some
returns-in-Some c =
    rw take_rest (sym (last_part_at c.args.path.now c.in-Some.slash (search rules) (search rules) (search rules)))

pub returns-in-None : goal.returns-in-None
returns-in-None c = sym (last_part_all c.args.path.now (search rules))
