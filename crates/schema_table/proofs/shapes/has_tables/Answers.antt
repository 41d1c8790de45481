use Rattle.std.proofs.Common.{refl, arith}
use Rattle.schema_table.specs.Shapes.{IsTable}
use Rattle.schema_table.proofs.Each.{EachValue-opened, EachValue-closed, EachValue-end}
use Rattle.schema_table.proofs.shapes.has_tables.Goals as goal

pub returns-then-not-is_table : goal.returns-then-not-is_table
returns-then-not-is_table c = (
  λ wrong. cc,
  λ each. let first = (EachValue-opened IsTable c.args.table.now c.loop-at.at _ c.entry_at.ensures.entry
      (c.loop-at.invariant.from_here each)).0 in let found = c.is_table.ensures.1 first in cc,
)

pub loop-at-preserved : goal.loop-at-preserved
loop-at-preserved c = record {
  so_far = λ rest. c.loop-at.invariant.so_far (EachValue-closed IsTable c.args.table.now c.loop-at.at _
      c.entry_at.ensures.entry (c.is_table.ensures.0 c.if-not-is_table.false) rest);
  from_here = λ each. (EachValue-opened IsTable c.args.table.now c.loop-at.at _ c.entry_at.ensures.entry
      (c.loop-at.invariant.from_here each)).1;
}

pub returns : goal.returns
returns c = (
  λ _. c.loop-at.invariant.so_far (EachValue-end IsTable c.args.table.now c.loop-at.at
      (omega (arith, c.len-at-end.ensures))),
  λ _. refl,
)
