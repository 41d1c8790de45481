use Rattle.std.proofs.Common.{ℕ, List, Option, ◌+◌, ◌≡◌, length, arith, ap, sym, subst, ◌∙◌}
use Rattle.std.specs.Option.{option_copied}
use Rattle.std.proofs.lemmas.List.{get_or_read}
use Rattle.twofold_paths.specs.Search.{GoesFirst, IsLeastTaken}
use Rattle.twofold_paths.specs.declared.place.Place.{Place}
use Rattle.twofold_paths.proofs.Taken.{next_least, same_least}
use Rattle.twofold_paths.proofs.search.least_taken.Goals as goal
use Rattle.twofold_paths.proofs.search.least_taken.Goals.{then-is_next, else-is_next}

pub loop-at-preserved : goal.loop-at-preserved
loop-at-preserved c = elim c.if-is_next.branch [
  | then-is_next w ↦ let both = c.is_next.ensures.0 w.if-is_next.true in
      subst (λ (o : Option (List ℕ)). IsLeastTaken c.args.places.now (c.loop-at.at + 1) o) (sym (ap option_copied w.least-is))
      (next_least c.args.places.now c.loop-at.at c.index-places-at.result c.loop-at-test.true c.index-places-at.is (option_copied c.loop-at.least) c.loop-at.invariant both.0
      (subst (λ (p : Place). GoesFirst p.path (option_copied c.loop-at.least)) (sym c.index-places-at.is) (both.1 c.index-places-at.result)))
  | else-is_next w ↦
      subst (λ (o : Option (List ℕ)). IsLeastTaken c.args.places.now (c.loop-at.at + 1) o) (sym (ap option_copied w.least-is))
      (same_least c.args.places.now c.loop-at.at c.index-places-at.result c.loop-at-test.true c.index-places-at.is (option_copied c.loop-at.least) c.loop-at.invariant
      (λ taken goes. let is = c.is_next.ensures.1 (taken, λ d. subst (λ (p : Place). GoesFirst p.path (option_copied c.loop-at.least)) (get_or_read c.args.places.now c.loop-at.at c.index-places-at.result c.loop-at-test.true c.index-places-at.is d) goes) in
      let clash = sym is ∙ w.if-is_next.false in cc clash))
]

pub returns : goal.returns
returns c =
    let all : c.loop-at.at ≡ length c.args.places.now = omega arith in
    subst (λ (n : ℕ). IsLeastTaken c.args.places.now n (option_copied c.loop-at.least)) all c.loop-at.invariant
