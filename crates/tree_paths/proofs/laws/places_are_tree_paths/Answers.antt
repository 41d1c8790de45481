use Rattle.tree_paths.proofs.PlacePaths.{placed, versioned_is, own_is}
use Rattle.tree_paths.proofs.laws.places_are_tree_paths.Goals as goal

pub returns-clause-plain : goal.returns-clause-plain
returns-clause-plain c = λ item. placed item.kind item.path

pub returns-clause-versioned : goal.returns-clause-versioned
returns-clause-versioned c = versioned_is

pub returns-clause-own : goal.returns-clause-own
returns-clause-own c = own_is
