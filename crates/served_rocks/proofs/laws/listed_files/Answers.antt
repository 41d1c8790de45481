use Rattle.served_rocks.proofs.Listed.{below_there, found_there}
use Rattle.served_rocks.proofs.laws.listed_files.Goals as goal

pub returns-clause-below : goal.returns-clause-below
returns-clause-below c = below_there

pub returns-clause-found : goal.returns-clause-found
returns-clause-found c = found_there
