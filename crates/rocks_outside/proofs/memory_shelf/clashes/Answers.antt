use Rattle.std.proofs.Common.{sym, ◌∙◌}
use Rattle.rocks_outside.proofs.Clashing.{clash_from_any, any_from_clash}
use Rattle.rocks_outside.proofs.memory_shelf.clashes.Goals as goal

pub returns : goal.returns
returns c = (
  λ found. clash_from_any c.args.files.now c.args.path.now (sym c.any_in_the_way.ensures ∙ found),
  λ clash. c.any_in_the_way.ensures ∙ any_from_clash c.args.files.now c.args.path.now clash,
)
