use Rattle.std.proofs.Common.{refl, arith, below_more, sym, ◌∙◌}
use Rattle.tree_claims.proofs.Found.{folder_found, no_folder}
use Rattle.tree_claims.proofs.search.is_met_above.Goals as goal
use Rattle.tree_claims.proofs.search.is_met_above.Goals.{else-b-eq47-via-then-b-eq47+else-has_path, else-b-eq47-via-else-b-eq47}

pub returns-then-has_path : goal.returns-then-has_path
returns-then-has_path c =
    (λ _. folder_found c.args.entries.now c.args.mine.now.path c.as_bytes-path.result.now c.loop-at.at (c.as_bytes-path.ensures.value ∙ c.as_str.ensures.value) c.loop-at-test.true c.if-b-eq47.true (c.has_path.ensures.0 c.if-has_path.true), λ _. refl)

pub loop-at-preserved : goal.loop-at-preserved
loop-at-preserved c = below_more _ _ c.loop-at.invariant (elim c.else-b-eq47.branch [
  | else-b-eq47-via-then-b-eq47+else-has_path w ↦ λ slash any. let clash = sym (w.has_path.ensures.1 any) ∙ w.if-has_path.false in cc clash
  | else-b-eq47-via-else-b-eq47 w ↦ λ slash any. w.if-b-eq47.false slash
])

pub returns : goal.returns
returns c = (λ never. absurd cc, λ any. absurd (no_folder c.args.entries.now c.args.mine.now.path c.as_bytes-path.result.now (c.as_bytes-path.ensures.value ∙ c.as_str.ensures.value) (λ k below. c.loop-at.invariant k (omega arith)) any))
