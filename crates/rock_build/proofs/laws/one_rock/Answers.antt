use Rattle.rock_build.proofs.OneRock.{one_built, one_unpacked}
use Rattle.rock_build.proofs.laws.one_rock.Goals as goal

pub returns-clause-built : goal.returns-clause-built
returns-clause-built c = one_built

pub returns-clause-taken : goal.returns-clause-taken
returns-clause-taken c = one_unpacked
