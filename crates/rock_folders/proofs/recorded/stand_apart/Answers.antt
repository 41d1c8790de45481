use Rattle.rock_folders.specs.Steps.{places_of}
use Rattle.rock_folders.proofs.RecordTests.{none_found}
use Rattle.rock_folders.proofs.recorded.stand_apart.Goals as goal

pub returns : goal.returns
returns c = none_found c.in_ok-places_of.field-0.items (places_of c.args.whole.now) c.in_ok-least.least c.is_none.result c.in_ok-places_of.ensures c.is_none.ensures c.in_ok-least.ensures
