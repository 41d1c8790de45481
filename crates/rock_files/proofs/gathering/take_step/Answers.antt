use Rattle.rock_files.proofs.Steps.{folder_fails}
use Rattle.rock_files.proofs.gathering.take_step.Goals as goal

pub returns-in-NoFile-clause-fault : goal.returns-in-NoFile-clause-fault
returns-in-NoFile-clause-fault g c = λ front rest so_far.
    rw c.in-NoFile.is (folder_fails c.args.server c.args.folder.now (g.F.Shelf.state c.args.shelf.now).holds front c.args.taken.now so_far rest c.in-NoFile.folder)
