use Rattle.rock_build.proofs.Answering.{rock_comes, rock_makes}
use Rattle.rock_build.proofs.making.made.Goals as goal

pub returns-clause-comes : goal.returns-clause-comes
returns-clause-comes g c =
    rock_comes (g.F.Shelf.state c.args.shelf.now).holds c.args.server c.args.folder.now c.args.steps.items c.args.spec.now c.args.bytes.now c.requires.good c.in_ok-files.files c.in_ok-files.ensures.gathers c.in_ok-rock.field-0 c.in_ok-rock.ensures

pub returns-clause-makes : goal.returns-clause-makes
returns-clause-makes g c =
    rock_makes (g.F.Shelf.state c.args.shelf.now).holds c.args.server c.args.folder.now c.args.steps.items c.args.spec.now c.args.bytes.now c.requires.good c.in_ok-files.files c.in_ok-files.ensures.gathers c.requires.spec c.in_ok-rock.field-0 c.in_ok-rock.ensures
