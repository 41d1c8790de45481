use Rattle.lua_value.proofs.Left.{left}
use Rattle.schema_table.specs.Shapes.{IsIntOrTextKey, EachKey}
use Rattle.schema_table.proofs.shapes.has_int_or_text_keys.Given as goal

abbrev pub invariant-loop-at : goal.invariant-loop-at
invariant-loop-at l = record {
  so_far : EachKey IsIntOrTextKey (left l.at l.table) → EachKey IsIntOrTextKey l.table;
  from_here : EachKey IsIntOrTextKey l.table → EachKey IsIntOrTextKey (left l.at l.table);
}
