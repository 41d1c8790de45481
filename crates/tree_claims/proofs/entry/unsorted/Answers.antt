use Rattle.std.proofs.Common.{List, ◌∷◌, [], ◌++◌, ap, ◌∙◌}
use Rattle.tree_claims.specs.declared.entry.Entry.{Entry}
use Rattle.tree_claims.proofs.Entries.{entries_more}
use Rattle.tree_claims.proofs.entry.unsorted.Goals as goal

pub loop-item-preserved : goal.loop-item-preserved
loop-item-preserved c =
    let plain = c.in_ok-plain_entry.ensures in
    let versioned = c.in_ok-versioned_entry.ensures in
    c.in_ok-push-2.ensures.items ∙ ap (λ (l : List Entry). l ++ c.in_ok-versioned_entry.field-0 ∷ []) c.in_ok-push.ensures.items
    ∙ (λ i. (c.loop-item.entries.items ++ plain i ∷ []) ++ versioned i ∷ [])
    ∙ entries_more c.args.key.now c.args.items.now c.loop-item.item-index c.item-item.result c.loop-item.entries.items c.loop-item-test.true c.item-item.is c.loop-item.invariant
