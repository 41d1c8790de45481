use Rattle.std.proofs.Common.{sym, subst}
use Rattle.std.specs.Prelude.{Ok}
use Rattle.rocks_command.specs.declared.command.Command.TheVariants.{Eval, Lint}
use Rattle.rocks_session.specs.Execute.{Executes}
use Rattle.rocks_session.proofs.Comparing.{compares}
use Rattle.rocks_session.proofs.Telling.{tells}
use Rattle.rocks_session.proofs.execution.execute.Goals as goal

pub returns-in-Eval : goal.returns-in-Eval
returns-in-Eval g c =
    let device = g.V.Device.state c.args.device.now in
    let before = g.F.Shelf.state c.args.shelf.now in
    let now = g.F.Shelf.state c.eval.new.shelf in
    subst (λ command. Executes command c.eval.result c.args.tree.now c.args.tree.now device device before now) (sym c.in-Eval.is)
    (tells (Eval c.in-Eval.path) c.args.tree.now device before now c.eval.result c.eval.ensures.answer c.eval.ensures.asks)

pub returns-in-Lint : goal.returns-in-Lint
returns-in-Lint g c =
    let device = g.V.Device.state c.args.device.now in
    let before = g.F.Shelf.state c.args.shelf.now in
    let now = g.F.Shelf.state c.lint.new.shelf in
    subst (λ command. Executes command c.lint.result c.args.tree.now c.args.tree.now device device before now) (sym c.in-Lint.is)
    (tells (Lint c.in-Lint.key) c.args.tree.now device before now c.lint.result c.lint.ensures.answer c.lint.ensures.asks)

pub returns-in_ok-compare-in-Compare : goal.returns-in_ok-compare-in-Compare
returns-in_ok-compare-in-Compare g c =
    let device = g.V.Device.state c.args.device.now in
    let shelf = g.F.Shelf.state c.args.shelf.now in
    let done = c.in_ok-compare-in-Compare in
    subst (λ command. Executes command (Ok done.field-0) c.args.tree.now c.args.tree.now device device shelf shelf) (sym c.in-Compare.is)
    (compares c.in-Compare.left c.in-Compare.right c.args.tree.now device shelf done.field-0 done.ensures.refusal done.ensures.text)
