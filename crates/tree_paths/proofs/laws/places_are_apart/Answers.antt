use Rattle.tree_paths.proofs.Apart.{plain_apart, versioned_apart}
use Rattle.tree_paths.proofs.laws.places_are_apart.Goals as goal

pub returns-clause-plain : goal.returns-clause-plain
returns-clause-plain c = plain_apart

pub returns-clause-versioned : goal.returns-clause-versioned
returns-clause-versioned c = versioned_apart
