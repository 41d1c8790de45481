use Rattle.std.proofs.Common.{List, subst}
use Rattle.std.specs.Prelude.{ℕ}
use Rattle.std.proofs.lemmas.Option.{MatchOption-at_none}
use Rattle.twofold_paths.specs.Places.{IsLeastTwofoldPath, IsTwofoldPath}
use Rattle.twofold_paths.specs.declared.place.Place.{Place}
use Rattle.build_plan.proofs.plan.check_apart.Goals as goal

pub returns-in-None : goal.returns-in-None
returns-in-None c =
    subst (λ (l : List Place). (path : List ℕ) → IsTwofoldPath l path → ⊥) c.in_ok-places.ensures
    (MatchOption-at_none ((path : List ℕ) → ¬ IsTwofoldPath c.in_ok-places.field-0.items path) (IsLeastTwofoldPath c.in_ok-places.field-0.items) c.in-None.is c.in_ok-path.ensures)
