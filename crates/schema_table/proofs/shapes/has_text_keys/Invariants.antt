use Rattle.lua_value.proofs.Left.{left}
use Rattle.schema_table.specs.Shapes.{IsTextKey, EachKey}
use Rattle.schema_table.proofs.shapes.has_text_keys.Given as goal

abbrev pub invariant-loop-at : goal.invariant-loop-at
invariant-loop-at l = record {
  so_far : EachKey IsTextKey (left l.at l.table) → EachKey IsTextKey l.table;
  from_here : EachKey IsTextKey l.table → EachKey IsTextKey (left l.at l.table);
}
