use Rattle.std.proofs.Common.{List, [], ◌∷◌, ◌++◌, Option, take, sym, subst, ap}
use Rattle.std.specs.Option.{option_copied}
use Rattle.std.proofs.lemmas.List.{take_all}
use Rattle.rocks_version.specs.declared.key.RockKey.{RockKey}
use Rattle.tree_claims.specs.Index.{IsLeastHit}
use Rattle.tree_claims.specs.declared.entry.Entry.{Entry}
use Rattle.tree_claims.proofs.Least.{taken, kept, one_more, next_if, not_next_if}
use Rattle.tree_claims.proofs.search.least_hit.Goals as goal
use Rattle.tree_claims.proofs.search.least_hit.Goals.{then-is_next, else-is_next}

pub loop-other-preserved : goal.loop-other-preserved
loop-other-preserved c = one_more c.args.others.now c.args.mine.now c.loop-other.other-index c.other-item.result _ c.loop-other-test.true c.other-item.is (elim c.if-is_next.branch [
  | then-is_next w ↦ let takes = next_if c.args.mine.now c.other-item.result (option_copied c.loop-other.least) c.is_next.result w.if-is_next.true c.is_next.ensures in
      subst (λ (o : Option RockKey). IsLeastHit (take c.loop-other.other-index c.args.others.now ++ c.other-item.result ∷ []) c.args.mine.now o) (sym (ap option_copied w.least-is))
      (taken (take c.loop-other.other-index c.args.others.now) c.args.mine.now c.other-item.result (option_copied c.loop-other.least) c.loop-other.invariant takes.0 takes.1)
  | else-is_next w ↦ subst (λ (o : Option RockKey). IsLeastHit (take c.loop-other.other-index c.args.others.now ++ c.other-item.result ∷ []) c.args.mine.now o) (sym (ap option_copied w.least-is))
      (kept (take c.loop-other.other-index c.args.others.now) c.args.mine.now c.other-item.result (option_copied c.loop-other.least) c.loop-other.invariant
      (not_next_if c.args.mine.now c.other-item.result (option_copied c.loop-other.least) c.is_next.result w.if-is_next.false c.is_next.ensures))
])

pub returns : goal.returns
returns c = subst (λ (l : List Entry). IsLeastHit l c.args.mine.now (option_copied c.loop-other.least)) (take_all c.loop-other.other-index c.args.others.now c.loop-other-test.false) c.loop-other.invariant
