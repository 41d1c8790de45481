use Rattle.std.proofs.Common.{refl, arith, below_more, sym, ◌∙◌}
use Rattle.twofold_paths.proofs.Taken.{folder_found, no_folder}
use Rattle.twofold_paths.proofs.search.is_below_one.Goals as goal
use Rattle.twofold_paths.proofs.search.is_below_one.Goals.{else-b-eq47-via-then-b-eq47+else-has_place, else-b-eq47-via-else-b-eq47}

pub returns-then-has_place : goal.returns-then-has_place
returns-then-has_place c =
    (λ _. folder_found c.args.places.now c.args.place.now c.as_bytes-path.result.now (c.as_bytes-path.ensures.value ∙ c.as_str.ensures.value) c.loop-at.at c.loop-at-test.true c.if-b-eq47.true (c.has_place.ensures.0 c.if-has_place.true), λ _. refl)

pub loop-at-preserved : goal.loop-at-preserved
loop-at-preserved c = below_more _ _ c.loop-at.invariant (elim c.else-b-eq47.branch [
  | else-b-eq47-via-then-b-eq47+else-has_place w ↦ λ slash any. let clash = sym (w.has_place.ensures.1 any) ∙ w.if-has_place.false in cc clash
  | else-b-eq47-via-else-b-eq47 w ↦ λ slash any. w.if-b-eq47.false slash
])

pub returns : goal.returns
returns c = (λ never. absurd cc, λ any. absurd (no_folder c.args.places.now c.args.place.now c.as_bytes-path.result.now (c.as_bytes-path.ensures.value ∙ c.as_str.ensures.value) (λ k below. c.loop-at.invariant k (omega arith)) any))
