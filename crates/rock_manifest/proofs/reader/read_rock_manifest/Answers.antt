use Rattle.rock_manifest.proofs.Again.{found_again}
use Rattle.rock_manifest.proofs.Valid.{read_record}
use Rattle.rock_manifest.proofs.reader.read_rock_manifest.Goals as goal

pub returns-then-branch-clause-valid : goal.returns-then-branch-clause-valid
returns-then-branch-clause-valid c = read_record c.args.bytes.now c.in_ok-found.found c.in_ok-found.ensures
    (c.in_ok-is_text_of.ensures.0 c.if-branch.true).0

pub returns-else-branch-clause-bad : goal.returns-else-branch-clause-bad
returns-else-branch-clause-bad c _ whole is same =
    let tells = c.in_ok-is_text_of.ensures.1
    (found_again c.args.bytes.now c.in_ok-found.found whole c.in_ok-found.ensures is same) in
    let no = c.if-branch.false in
    cc
