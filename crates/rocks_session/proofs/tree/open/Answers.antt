use Rattle.std.proofs.Common.{arith}
use Rattle.std.proofs.lemmas.Grind.{common_steps}
use Rattle.rocks_session.proofs.Listing.{told_none, told_first}
use Rattle.rocks_session.proofs.Opening.{opens_empty, tree_of_opened}
use Rattle.rocks_session.proofs.tree.open.Goals as goal

pub returns-then-is_empty-clause-set : goal.returns-then-is_empty-clause-set
returns-then-is_empty-clause-set g c =
    rw c.new.ensures.items (opens_empty (g.V.Device.state c.args.device.now).files (g.V.Device.state c.list.new.self) c.in_ok-paths.ensures.looks.files
    (told_none (g.V.Device.state c.args.device.now).files c.in_ok-paths.paths.items c.in_ok-paths.ensures.listed (grind (arith, common_steps))))

pub returns-then-is_empty-clause-only : goal.returns-then-is_empty-clause-only
returns-then-is_empty-clause-only g c = λ set opens. rw c.new.ensures.items (tree_of_opened set _ opens)

pub returns-clause-fault : goal.returns-clause-fault
returns-clause-fault g c = told_first (g.V.Device.state c.args.device.now).files c.in_ok-paths.paths.items c.remove.result c.in_ok-paths.ensures.listed c.remove.ensures.value (grind (arith, common_steps))
