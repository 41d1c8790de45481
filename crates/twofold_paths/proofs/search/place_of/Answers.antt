use Rattle.std.proofs.Common.{rules}
use Rattle.std.proofs.lemmas.Fn.{always_returns_same}
use Rattle.twofold_paths.specs.Search.{place_cmp}
use Rattle.twofold_paths.specs.declared.place.Place.{Place}
use Rattle.twofold_paths.proofs.search.place_of.Goals as goal

pub returns-clause-place : goal.returns-clause-place
returns-clause-place c =
    c.binary_search_by.ensures.position (λ (place : Place). place_cmp place (record { sort = c.args.sort; path = c.args.path.now })) (always_returns_same _ _ _ (λ a r f called. (search rules, search rules)))
