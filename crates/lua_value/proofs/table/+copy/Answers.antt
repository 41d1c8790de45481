use Rattle.std.proofs.Common.{◌+◌, ◌*◌, ◌<◌, ◌≤◌, ap, arith}
use Rattle.chunked_list.specs.Items.{items}
use Rattle.lua_value.specs.Depth.{value_depth, depth}
use Rattle.lua_value.specs.View.{datum, pairs_of}
use Rattle.lua_value.proofs.View.{depth_at, walk_step}
use Rattle.lua_value.proofs.table.+copy.Goals as goal

pub Table::copy-copy_entry-requires : goal.Table::copy-copy_entry-requires
Table::copy-copy_entry-requires t c =
    let within : value_depth (datum c.item.result.now.1) ≤ depth (pairs_of (items c.self.inside.entries)) = depth_at _ _ _ c.item.ensures in
    let falls : 3 * value_depth (datum c.item.result.now.1) + 1 < t = omega (arith, within, ap depth c.self.view_is) in
    (falls, tt)

pub Table::copy-loop-at-preserved : goal.Table::copy-loop-at-preserved
Table::copy-loop-at-preserved t c =
    let es = items c.self.inside.entries in
    record {
      whole = c.in_ok-push.ensures.whole;
      so_far = walk_step _ _ es c.loop-at.at _ _ _ c.in_ok-push.ensures.ok c.in_ok-copy_entry.ensures c.item.ensures c.loop-at.invariant.so_far;
    }
