use Rattle.std.proofs.Common.{◌∙◌, List, ap, map}
use Rattle.rocks_text.specs.declared.item.Item.{Item}
use Rattle.tree_claims.specs.Claims.{claims_of_rock}
use Rattle.tree_claims.specs.Index.{entry_of}
use Rattle.tree_claims.proofs.Entries.{claims_more}
use Rattle.tree_claims.proofs.entry.unsorted_of.Goals as goal

pub loop-key-preserved : goal.loop-key-preserved
loop-key-preserved c =
    c.in_ok-append.ensures.items
    ∙ claims_more c.args.rocks.now c.loop-key.key-index c.loop-key-item.result c.loop-key.entries.items c.in_ok-more.more.items c.loop-key-test.true c.loop-key-item.is c.loop-key.invariant
    (c.in_ok-more.ensures ∙ ap (λ (items : List Item). map entry_of (claims_of_rock c.loop-key-item.result.0 items)) c.as_slice.ensures)
