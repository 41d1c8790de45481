use Rattle.chunked_list.specs.Items.{items}
use Rattle.lua_value.proofs.View.{walk_step}
use Rattle.lua_value.proofs.table.merge.copy_rest.Goals as goal

pub loop-at-preserved : goal.loop-at-preserved
loop-at-preserved c =
    let es = items c.args.from.now in
    record {
      whole = c.in_ok-push.ensures.whole;
      so_far = walk_step _ _ es c.loop-at.at _ _ _ c.in_ok-push.ensures.ok c.in_ok-copy_entry.ensures c.item.ensures c.loop-at.invariant.so_far;
    }
