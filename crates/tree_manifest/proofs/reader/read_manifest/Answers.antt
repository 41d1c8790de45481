use Rattle.std.proofs.Common.{sym}
use Rattle.tree_manifest.proofs.Again.{is_view, right_text}
use Rattle.tree_manifest.proofs.reader.read_manifest.Goals as goal

pub returns-then-branch-clause-valid : goal.returns-then-branch-clause-valid
returns-then-branch-clause-valid c =
    is_view c.in_ok-found.found c.in_ok-found.ensures.valid (c.in_ok-is_text_of.ensures.0 c.if-branch.true).0

pub returns-else-branch-clause-bad : goal.returns-else-branch-clause-bad
returns-else-branch-clause-bad c _ whole is same =
    let tells = c.in_ok-is_text_of.ensures.1
    (right_text c.args.bytes.now c.in_ok-found.found whole (c.in_ok-found.ensures.known whole is (sym same)) is (sym same)) in
    let no = c.if-branch.false in
    cc
