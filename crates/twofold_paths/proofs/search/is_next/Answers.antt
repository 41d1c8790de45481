use Rattle.std.proofs.Common.{subst}
use Rattle.std.specs.Option.{option_copied}
use Rattle.std.proofs.lemmas.List.{get_or_default}
use Rattle.twofold_paths.specs.Search.{GoesFirst}
use Rattle.twofold_paths.specs.declared.place.Place.{Place}
use Rattle.twofold_paths.proofs.search.is_next.Goals as goal

pub returns-then-is_taken : goal.returns-then-is_taken
returns-then-is_taken c = (
  λ yes'. (
    c.is_taken.ensures.0 c.if-is_taken.true,
    λ d. subst (λ (p : Place). GoesFirst p.path (option_copied c.args.least)) (get_or_default c.args.places.now c.args.at c.index-places-at.result d c.requires.within) (c.goes_first.ensures.0 yes'),
  ),
  λ both. c.goes_first.ensures.1 (both.1 c.index-places-at.result),
)
