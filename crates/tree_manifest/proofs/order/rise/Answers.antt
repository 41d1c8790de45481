use Rattle.std.proofs.Common.{rules}
use Rattle.std.specs.Ordering.{is_lt}
use Rattle.std.proofs.lemmas.List.Sorted.{answers_always}
use Rattle.rocks_text.specs.Files.{path_cmp}
use Rattle.rock_manifest.proofs.Orders.{path_total, tells_order}
use Rattle.tree_manifest.proofs.order.rise.Goals as goal

pub returns : goal.returns
returns c =
    tells_order path_cmp path_total (λ path. path.0) c.args.paths.now c.is_sorted_by.result
    (c.is_sorted_by.ensures.cases (λ path next. is_lt (path_cmp path.0 next.0))
    (answers_always _ _ _ (λ f a r q k. search rules)))
