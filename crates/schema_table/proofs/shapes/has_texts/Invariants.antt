use Rattle.lua_value.proofs.Left.{left}
use Rattle.schema_table.specs.Shapes.{IsText, EachValue}
use Rattle.schema_table.proofs.shapes.has_texts.Given as goal

abbrev pub invariant-loop-at : goal.invariant-loop-at
invariant-loop-at l = record {
  so_far : EachValue IsText (left l.at l.table) → EachValue IsText l.table;
  from_here : EachValue IsText l.table → EachValue IsText (left l.at l.table);
}
