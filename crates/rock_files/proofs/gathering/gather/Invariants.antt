use Rattle.rock_files.specs.Taking.{AreTaken}
use Rattle.rock_files.proofs.Asking.{Stays}
use Rattle.rock_files.proofs.gathering.gather.Given as goal

abbrev pub invariant-loop-step : goal.invariant-loop-step
invariant-loop-step g l =
    let first = g.F.Shelf.state l.fn.shelf in
    record {
      stays : Stays first (g.F.Shelf.state l.shelf);
      taken : AreTaken first.holds l.fn.server l.fn.folder l.yielded l.taken;
    }
