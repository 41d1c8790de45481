use Rattle.std.proofs.Common.{refl, arith}
use Rattle.schema_table.specs.Shapes.{IsIntOrTextKey}
use Rattle.schema_table.proofs.Each.{EachKey-opened, EachKey-closed, EachKey-end}
use Rattle.schema_table.proofs.shapes.has_int_or_text_keys.Goals as goal

pub returns-then-not-is_int_or_text_key : goal.returns-then-not-is_int_or_text_key
returns-then-not-is_int_or_text_key c = (
  λ wrong. cc,
  λ each. let first = (EachKey-opened IsIntOrTextKey c.args.table.now c.loop-at.at _ c.entry_at.ensures.entry
      (c.loop-at.invariant.from_here each)).0 in let found = c.is_int_or_text_key.ensures.1 first in cc,
)

pub loop-at-preserved : goal.loop-at-preserved
loop-at-preserved c = record {
  so_far = λ rest. c.loop-at.invariant.so_far (EachKey-closed IsIntOrTextKey c.args.table.now c.loop-at.at _
      c.entry_at.ensures.entry (c.is_int_or_text_key.ensures.0 c.if-not-is_int_or_text_key.false) rest);
  from_here = λ each. (EachKey-opened IsIntOrTextKey c.args.table.now c.loop-at.at _ c.entry_at.ensures.entry
      (c.loop-at.invariant.from_here each)).1;
}

pub returns : goal.returns
returns c = (
  λ _. c.loop-at.invariant.so_far (EachKey-end IsIntOrTextKey c.args.table.now c.loop-at.at
      (omega (arith, c.len-at-end.ensures))),
  λ _. refl,
)
