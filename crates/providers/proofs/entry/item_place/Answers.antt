use Rattle.std.proofs.Common.{rules, List}
use Rattle.std.proofs.lemmas.Fn.{always_returns_same}
use Rattle.rocks_text.specs.Items.{item_cmp}
use Rattle.rocks_text.specs.declared.item.Item.{Item}
use Rattle.rocks_version.specs.declared.key.RockKey.{RockKey}
use Rattle.providers.proofs.entry.item_place.Goals as goal

pub returns-clause-place : goal.returns-clause-place
returns-clause-place c = c.binary_search_by.ensures.position (λ (entry : Item × List RockKey). item_cmp entry.0 c.args.item.now) (always_returns_same _ _ _ (λ a r f called. (search rules, search rules)))
