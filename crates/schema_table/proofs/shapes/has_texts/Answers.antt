use Rattle.std.proofs.Common.{refl, arith}
use Rattle.schema_table.specs.Shapes.{IsText}
use Rattle.schema_table.proofs.Each.{EachValue-opened, EachValue-closed, EachValue-end}
use Rattle.schema_table.proofs.shapes.has_texts.Goals as goal

pub returns-then-not-is_text : goal.returns-then-not-is_text
returns-then-not-is_text c = (
  λ wrong. cc,
  λ each. let first = (EachValue-opened IsText c.args.table.now c.loop-at.at _ c.entry_at.ensures.entry
      (c.loop-at.invariant.from_here each)).0 in let found = c.is_text.ensures.1 first in cc,
)

pub loop-at-preserved : goal.loop-at-preserved
loop-at-preserved c = record {
  so_far = λ rest. c.loop-at.invariant.so_far (EachValue-closed IsText c.args.table.now c.loop-at.at _
      c.entry_at.ensures.entry (c.is_text.ensures.0 c.if-not-is_text.false) rest);
  from_here = λ each. (EachValue-opened IsText c.args.table.now c.loop-at.at _ c.entry_at.ensures.entry
      (c.loop-at.invariant.from_here each)).1;
}

pub returns : goal.returns
returns c = (
  λ _. c.loop-at.invariant.so_far (EachValue-end IsText c.args.table.now c.loop-at.at
      (omega (arith, c.len-at-end.ensures))),
  λ _. refl,
)
