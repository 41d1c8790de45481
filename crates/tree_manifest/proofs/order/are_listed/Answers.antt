use Rattle.std.proofs.Common.{rules, ◌≡◌, ◌∙◌}
use Rattle.std.specs.Ordering.{is_lt}
use Rattle.std.proofs.lemmas.List.Sorted.{answers_always}
use Rattle.rocks_version.specs.Keys.{is_before, listing_cmp}
use Rattle.rocks_version.proofs.OrderLaws.{is_before_is, key_total}
use Rattle.rock_manifest.proofs.Orders.{tells_order}
use Rattle.tree_manifest.proofs.order.are_listed.Goals as goal

pub returns : goal.returns
returns c =
    tells_order listing_cmp key_total (λ rock. rock.key) c.args.rocks.now c.is_sorted_by.result
    (c.is_sorted_by.ensures.cases (λ rock next. is_lt (listing_cmp rock.key next.key))
    (answers_always _ _ _ (λ f a r q k.
    let told : r ≡ is_before a.0.now.key a.1.0.now.key = search rules in told ∙ is_before_is a.0.now.key a.1.0.now.key)))
