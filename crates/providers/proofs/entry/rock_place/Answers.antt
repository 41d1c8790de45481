use Rattle.std.proofs.Common.{rules}
use Rattle.std.proofs.lemmas.Fn.{always_returns_same}
use Rattle.rocks_version.specs.Keys.{listing_cmp}
use Rattle.rocks_version.specs.declared.key.RockKey.{RockKey}
use Rattle.providers.proofs.entry.rock_place.Goals as goal

pub returns-clause-place : goal.returns-clause-place
returns-clause-place c = c.binary_search_by.ensures.position (λ (rock : RockKey). listing_cmp rock c.args.key.now) (always_returns_same _ _ _ (λ a r f called. (search rules, search rules)))
