use Rattle.std.proofs.Common.{rules}
use Rattle.std.proofs.lemmas.List.Sorted.{IsPartitionPoint-from_clause}
use Rattle.std.specs.Ordering.{is_lt}
use Rattle.rocks_text.specs.Files.{path_cmp}
use Rattle.tree_claims.proofs.Found.{parted}
use Rattle.tree_claims.proofs.PathOrder.{lt_less, no_less}
use Rattle.tree_claims.proofs.search.first_from.Goals as goal

pub returns-clause-less : goal.returns-clause-less
returns-clause-less c =
    let point = IsPartitionPoint-from_clause (λ entry. is_lt (path_cmp entry.path c.args.path.now)) c.args.entries.now c.partition_point.result c.partition_point.ensures.partitioned (parted c.args.entries.now c.args.path.now c.requires) (λ a r f q. search rules) in
    λ k d low high. lt_less _ (point.0 k d low high)

pub returns-clause-others : goal.returns-clause-others
returns-clause-others c =
    let point = IsPartitionPoint-from_clause (λ entry. is_lt (path_cmp entry.path c.args.path.now)) c.args.entries.now c.partition_point.result c.partition_point.ensures.partitioned (parted c.args.entries.now c.args.path.now c.requires) (λ a r f q. search rules) in
    λ k d low high. no_less _ (point.1 k d low high)
