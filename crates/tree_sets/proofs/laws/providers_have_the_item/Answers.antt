use Rattle.tree_sets.proofs.Providers.{provider_from, provider_with, providers_listed}
use Rattle.tree_sets.proofs.laws.providers_have_the_item.Goals as goal

pub returns-clause-members : goal.returns-clause-members
returns-clause-members c = λ entries item key. (provider_from entries item key, provider_with entries item key)

pub returns-clause-listed : goal.returns-clause-listed
returns-clause-listed c = providers_listed
