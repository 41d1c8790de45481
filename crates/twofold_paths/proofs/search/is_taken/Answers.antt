use Rattle.std.proofs.Common.{sym, subst, inr, ⊎_elim, ◌∙◌}
use Rattle.std.proofs.lemmas.List.{get_or_read}
use Rattle.twofold_paths.specs.Search.{IsBelowOne}
use Rattle.twofold_paths.proofs.search.is_taken.Goals as goal

pub returns-else-is_again : goal.returns-else-is_again
returns-else-is_again c = (
  λ yes'. inr (λ d. subst (IsBelowOne c.args.places.now) (get_or_read c.args.places.now c.args.at c.index-places-at.result c.requires.within c.index-places-at.is d) (c.is_below_one.ensures.0 yes')),
  λ taken. ⊎_elim (λ again. let clash = sym (c.is_again.ensures.1 again) ∙ c.if-is_again.false in absurd cc)
      (λ below. c.is_below_one.ensures.1 (subst (IsBelowOne c.args.places.now) (sym c.index-places-at.is) (below c.index-places-at.result))) taken,
)
