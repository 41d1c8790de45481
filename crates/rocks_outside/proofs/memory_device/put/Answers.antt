use Rattle.std.proofs.Common.{rules}
use Rattle.rocks_outside.proofs.Held.{files_of-insert, files_of-unchanged}
use Rattle.rocks_outside.proofs.memory_device.put.Goals as goal

pub returns-in_err-insert-clause-err : goal.returns-in_err-insert-clause-err
returns-in_err-insert-clause-err c =
    let same = files_of-unchanged c.args.files.now c.insert.new.self c.in_err-insert.ensures.err in
    search rules

pub returns-clause-ok : goal.returns-clause-ok
returns-clause-ok c = files_of-insert _ _ _ _ c.in_ok-insert.ensures.updates
