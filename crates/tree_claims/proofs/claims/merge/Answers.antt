use Rattle.std.proofs.Common.{rules, subst, List}
use Rattle.std.specs.List.Sorted.{IsPermutation}
use Rattle.std.proofs.lemmas.List.Sorted.{answers_always}
use Rattle.tree_claims.specs.Index.{goes_before}
use Rattle.tree_claims.specs.declared.entry.Entry.{Entry}
use Rattle.tree_claims.proofs.Entries.{goes_before_order}
use Rattle.tree_claims.proofs.claims.merge.Goals as goal

pub returns-clause-ok : goal.returns-clause-ok
returns-clause-ok c = record {
  same = subst (λ (l : List Entry). IsPermutation l c.sort_by.new.self.items) c.in_ok-append.ensures.items c.in_default.ensures.permutation;
  in_order = c.in_default.ensures.sorted goes_before goes_before_order (answers_always _ _ _ (λ f a r g q. search rules));
}
