use Rattle.std.proofs.Common.{refl}
use Rattle.tree_claims.proofs.Found.{met_rest, hit_at, hit_above}
use Rattle.tree_claims.proofs.search.is_met.Goals as goal

pub returns-then-is_met_at : goal.returns-then-is_met_at
returns-then-is_met_at c = (λ _. hit_at c.args.entries.now c.args.mine.now (c.is_met_at.ensures.0 c.if-is_met_at.true), λ _. refl)

pub returns-then-is_met_above : goal.returns-then-is_met_above
returns-then-is_met_above c = (λ _. hit_above c.args.entries.now c.args.mine.now (c.is_met_above.ensures.0 c.if-is_met_above.true), λ _. refl)

pub returns : goal.returns
returns c = met_rest c.args.entries.now c.args.mine.now c.is_met_at.result c.is_met_above.result c.is_met_below.result c.if-is_met_at.false c.if-is_met_above.false c.is_met_at.ensures c.is_met_above.ensures c.is_met_below.ensures
