use Rattle.std.proofs.Common.{rules}
use Rattle.std.specs.Ordering.{is_lt}
use Rattle.std.proofs.lemmas.List.Sorted.{answers_always}
use Rattle.rocks_text.specs.Files.{path_cmp}
use Rattle.rock_manifest.proofs.Orders.{path_total, tells_order}
use Rattle.rock_record.proofs.order.are_files_in_order.Goals as goal

pub returns : goal.returns
returns c =
    tells_order path_cmp path_total (λ file. file.0) c.args.own.now c.is_sorted_by.result
    (c.is_sorted_by.ensures.cases (λ file next. is_lt (path_cmp file.0 next.0))
    (answers_always _ _ _ (λ f a r q k. search rules)))
