use Rattle.rocks_version.proofs.OrderLaws.{is_before_is, listing_irreflexive, listing_transitive, listing_asymmetric, listing_connected}
use Rattle.rocks_version.proofs.laws.listing_is_strict.Goals as goal

pub returns-clause-irreflexive : goal.returns-clause-irreflexive
returns-clause-irreflexive c = listing_irreflexive

pub returns-clause-transitive : goal.returns-clause-transitive
returns-clause-transitive c = listing_transitive

pub returns-clause-connected : goal.returns-clause-connected
returns-clause-connected c = listing_connected

pub returns-clause-asymmetric : goal.returns-clause-asymmetric
returns-clause-asymmetric c = listing_asymmetric

pub returns-clause-compared : goal.returns-clause-compared
returns-clause-compared c = is_before_is
