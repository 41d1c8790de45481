use Rattle.std.proofs.Common.{rules}
use Rattle.std.proofs.lemmas.List.Sorted.{IsPartitionPoint-from_clause}
use Rattle.std.specs.Ordering.{is_lt}
use Rattle.rocks_text.specs.Files.{path_cmp}
use Rattle.tree_claims.proofs.PathOrder.{lt_less}
use Rattle.tree_model.proofs.Meeting.{names_part}
use Rattle.tree_model.proofs.met.start_of.Goals as goal

pub returns-clause-below : goal.returns-clause-below
returns-clause-below c =
    let point = IsPartitionPoint-from_clause (λ entry. is_lt (path_cmp entry.key.name c.args.name.now)) c.args.entries.now c.partition_point.result c.partition_point.ensures.partitioned
    (names_part c.args.entries.now c.args.name.now c.requires) (λ a r f q. search rules) in
    λ k d low high. lt_less _ (point.0 k d low high)
