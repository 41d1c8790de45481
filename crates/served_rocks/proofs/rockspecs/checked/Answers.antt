use Rattle.served_rocks.proofs.Serving.{checked_err, checked_ok}
use Rattle.served_rocks.proofs.rockspecs.checked.Goals as goal

pub returns-in-Ok-clause-ok : goal.returns-in-Ok-clause-ok
returns-in-Ok-clause-ok c = checked_ok c.args.key.now c.args.bytes.now c.in-Ok.spec c.requires c.in-Ok.ensures.spec c.matching.result c.matching.ensures

pub returns-in-Ok-clause-err : goal.returns-in-Ok-clause-err
returns-in-Ok-clause-err c = checked_err c.args.key.now c.args.bytes.now c.in-Ok.spec c.requires c.in-Ok.ensures.spec c.matching.result c.matching.ensures
