use Rattle.std.specs.Option.{option_copied}
use Rattle.twofold_paths.specs.Search.{IsLeastTaken}
use Rattle.twofold_paths.proofs.search.least_taken.Given as goal

abbrev pub invariant-loop-at : goal.invariant-loop-at
invariant-loop-at l = IsLeastTaken l.places l.at (option_copied l.least)
