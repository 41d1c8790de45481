use Rattle.std.proofs.Common.{subst}
use Rattle.std.proofs.lemmas.Result.{err_from_is_err_and}
use Rattle.rocks_outside.specs.Shelf.{IsWithin}
use Rattle.rock_record.specs.declared.limits.TheConstants.{LONGEST_FILE}
use Rattle.rock_files.proofs.Steps.{one_taken, source_fails}
use Rattle.rock_files.proofs.gathering.read_source.Goals as goal

pub returns-in_err-bytes-clause-fault : goal.returns-in_err-bytes-clause-fault
returns-in_err-bytes-clause-fault g c = λ front rest so_far.
    let p = err_from_is_err_and c.from_residual-in_err-bytes.result c.from_residual-in_err-bytes.ensures.1 in
    rw (p.1, p.2)
    (source_fails c.args.server c.args.folder.now (g.F.Shelf.state c.args.shelf.now).holds front c.args.taken.now so_far rest c.args.source c.in_ok-read.read c.in_err-bytes.field-0.0
    c.in_ok-read.ensures.found c.in_err-bytes.ensures.fault)

pub returns-clause-taken : goal.returns-clause-taken
returns-clause-taken g c = λ front _ so_far.
    let short = subst (IsWithin LONGEST_FILE) c.in_ok-bytes.ensures.bytes c.in_ok-read.ensures.within in
    one_taken c.args.server c.args.folder.now (g.F.Shelf.state c.args.shelf.now).holds front c.args.taken.now so_far c.args.source c.in_ok-read.read c.in_ok-bytes.bytes c.add.new.taken
    c.in_ok-read.ensures.found c.in_ok-bytes.ensures.bytes short c.in_ok-bytes.ensures.fits c.in_ok-add.ensures.items c.in_ok-add.ensures.own c.in_ok-add.ensures.size
