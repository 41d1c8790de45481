use Rattle.std.proofs.Common.{rules}
use Rattle.std.proofs.lemmas.List.Sorted.{answers_always}
use Rattle.tree_claims.specs.Index.{goes_before}
use Rattle.tree_claims.proofs.Entries.{goes_before_order, index_from}
use Rattle.tree_claims.proofs.entry.entries_of.Goals as goal

pub returns : goal.returns
returns c =
    index_from _ c.in_ok-entries.entries.items c.sort_by.new.self.items c.in_ok-entries.ensures c.in_ok-sort_by.ensures.permutation
    (c.in_ok-sort_by.ensures.sorted goes_before goes_before_order (answers_always _ _ _ (λ f a r f' q. search rules)))
