use Rattle.std.proofs.Common.{rules}
use Rattle.std.specs.Ordering.{is_lt}
use Rattle.std.proofs.lemmas.List.Sorted.{answers_always}
use Rattle.rocks_text.specs.Items.{item_cmp}
use Rattle.rock_manifest.proofs.Orders.{item_total, tells_order}
use Rattle.rock_record.proofs.order.are_items_in_order.Goals as goal

pub returns : goal.returns
returns c =
    tells_order item_cmp item_total (λ file. file.0) c.args.items.now c.is_sorted_by.result
    (c.is_sorted_by.ensures.cases (λ file next. is_lt (item_cmp file.0 next.0))
    (answers_always _ _ _ (λ f a r q k. search rules)))
