use Rattle.std.proofs.Common.{rules, ◌≡◌, arith}
use Rattle.std.specs.Prelude.{Some}
use Rattle.std.specs.FinMap.{get}
use Rattle.std.proofs.lemmas.Grind.{common_steps}
use Rattle.rocks_outside.specs.Held.{files_of}
use Rattle.rocks_outside.proofs.Held.{get-files_of}
use Rattle.rocks_outside.proofs.memory_shelf.read.Goals as goal

pub returns-in_default-clause-found : goal.returns-in_default-clause-found
returns-in_default-clause-found c = rw get-files_of (search rules)

pub returns-then-as_slice-limit-clause-found : goal.returns-then-as_slice-limit-clause-found
returns-then-as_slice-limit-clause-found c =
    let some : get (files_of c.args.files.now) c.args.path.now ≡ Some c.in-Some.bytes.now = rw get-files_of (search rules) in
    (c.in-Some.bytes.now, some, grind (arith, common_steps))

pub returns-clause-found : goal.returns-clause-found
returns-clause-found c =
    let some : get (files_of c.args.files.now) c.args.path.now ≡ Some c.in_ok-copy.field-0 = rw get-files_of (search rules) in
    (some, grind (arith, common_steps))
