use Rattle.std.proofs.Common.{◌<◌, ◌≤◌, ◌-◌, length}
use denote.Param.Always.{always_mut}
use Rattle.std.specs.declared.cmp.Ordering.{Ordering}
use Rattle.std.specs.Fn.{ComputesKey}
use Rattle.chunked_list.specs.Items.{block_items}
use Rattle.chunked_list.proofs.Search.{Between}
use Rattle.chunked_list.proofs.list.ChunkedList.search.Given as goal

abbrev pub invariant-loop-high : goal.invariant-loop-high
invariant-loop-high g l = record {
  some : l.low < l.high;
  within : l.high ≤ length l.self.blocks.items;
  callable : always_mut g.F.FnMut l.order;
  between : (by : g.row.T.Denot → Ordering) → ComputesKey g.F.FnMut by l.initial.order → ComputesKey g.F.FnMut by l.order × Between block_items by l.self.blocks.items l.low l.high;
}

abbrev pub decreases-loop-high : goal.decreases-loop-high
decreases-loop-high g l = l.high - l.low
