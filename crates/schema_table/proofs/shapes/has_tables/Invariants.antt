use Rattle.lua_value.proofs.Left.{left}
use Rattle.schema_table.specs.Shapes.{IsTable, EachValue}
use Rattle.schema_table.proofs.shapes.has_tables.Given as goal

abbrev pub invariant-loop-at : goal.invariant-loop-at
invariant-loop-at l = record {
  so_far : EachValue IsTable (left l.at l.table) → EachValue IsTable l.table;
  from_here : EachValue IsTable l.table → EachValue IsTable (left l.at l.table);
}
