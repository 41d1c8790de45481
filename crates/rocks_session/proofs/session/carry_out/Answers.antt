use Rattle.rocks_session.proofs.session.carry_out.Goals as goal

pub returns : goal.returns
returns g c = (c.execute.new.tree, c.execute.ensures)
