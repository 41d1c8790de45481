use Rattle.std.proofs.Common.{◌≡◌, ◌≤◌, ◌+◌, ◌*◌, ◌++◌, List, [], drop, map, option_map, All, IfSome, Ok}
use Rattle.std.specs.Prelude.{max}
use Rattle.lua_syntax.specs.Trees.{tree, suffixes, trees, fields, field, no_fields}
use Rattle.lua_value.specs.declared.key.Key.{Key}
use Rattle.lua_value.specs.Ordered.{IsOrdered, IsServed}
use Rattle.lua_value.specs.Pairs.{no_pairs}
use Rattle.lua_value.specs.View.{datum}
use Rattle.lua_eval.specs.declared.weight.TheConstants.{HEAVIEST}
use Rattle.lua_eval.specs.Finding.{AreIntegersIn, AreIntegersAmong, AreIntegersOf, AreGiven}
use Rattle.lua_eval.specs.Joins.{and_then}
use Rattle.lua_eval.specs.Names.{or_nil, given}
use Rattle.lua_eval.specs.Values.{walk, find_all, fill}
use Rattle.lua_eval.proofs.Depths.{tree_depth, suffixes_depth, trees_depth, fields_depth}
use Rattle.lua_eval.proofs.+find.Given as goal

abbrev pub invariant-find::walk-loop-suffix : goal.invariant-find::walk-loop-suffix
invariant-find::walk-loop-suffix l = record {
  walked : walk (given l.scope.locals l.scope.globals) (suffixes (drop l.suffix-index l.behind)) (or_nil (option_map (λ value. datum value.now) l.current)) l.sum
      ≡ walk (given l.scope.locals l.scope.globals) (suffixes l.behind) (datum l.value) l.initial.sum;
  integers : AreIntegersIn (suffixes (drop l.suffix-index l.behind));
  shallow : suffixes_depth (suffixes (drop l.suffix-index l.behind)) ≤ suffixes_depth (suffixes l.behind);
  served : IfSome l.current (λ value. IsServed (datum value.now));
  low : l.sum ≤ HEAVIEST;
  grows : l.initial.sum ≤ l.sum;
}

abbrev pub invariant-find::find_all-loop-expr : goal.invariant-find::find_all-loop-expr
invariant-find::find_all-loop-expr l = record {
  found : and_then (find_all (given l.scope.locals l.scope.globals) (trees (drop l.expr-index l.exprs)) l.sum) (λ others. Ok (map datum l.values.items ++ others.0, others.1))
      ≡ find_all (given l.scope.locals l.scope.globals) (trees l.exprs) l.initial.sum;
  integers : AreIntegersAmong (trees (drop l.expr-index l.exprs));
  shallow : trees_depth (trees (drop l.expr-index l.exprs)) ≤ trees_depth (trees l.exprs);
  served : All IsServed (map datum l.values.items);
  low : l.sum ≤ HEAVIEST;
  grows : l.initial.sum ≤ l.sum;
}

abbrev pub invariant-table::find_table-loop-field : goal.invariant-table::find_table-loop-field
invariant-table::find_table-loop-field l = record {
  filled : (before : List Key) × AreGiven before l.making.made l.making.without_value
      × (fill (given l.scope.locals l.scope.globals) (fields (drop l.field-index l.list)) l.next before l.making.made l.sum
      ≡ fill (given l.scope.locals l.scope.globals) (fields l.list) 1 [] no_pairs l.initial.sum);
  integers : AreIntegersOf (fields (drop l.field-index l.list));
  shallow : fields_depth (fields (drop l.field-index l.list)) ≤ fields_depth (fields l.list);
  made : IsOrdered l.making.made;
  without_value : IsOrdered l.making.without_value;
  next : 16 * l.next ≤ l.sum + 16;
  low : l.sum ≤ HEAVIEST;
  grows : l.initial.sum ≤ l.sum;
}

abbrev pub decreases-find::find : goal.decreases-find::find
decreases-find::find l = 4 * tree_depth (tree l.expr.now)

abbrev pub decreases-find::find_index : goal.decreases-find::find_index
decreases-find::find_index l = 4 * max (tree_depth (tree l.base.now)) (suffixes_depth (suffixes l.behind.now)) + 1

abbrev pub decreases-find::walk : goal.decreases-find::walk
decreases-find::walk l = 4 * suffixes_depth (suffixes l.behind.now)

abbrev pub decreases-find::find_concat : goal.decreases-find::find_concat
decreases-find::find_concat l = 4 * trees_depth (trees l.operands.now) + 1

abbrev pub decreases-find::find_all : goal.decreases-find::find_all
decreases-find::find_all l = 4 * trees_depth (trees l.exprs.now)

abbrev pub decreases-table::find_table : goal.decreases-table::find_table
decreases-table::find_table l = 4 * fields_depth (fields l.list.now) + 3

abbrev pub decreases-table::fill : goal.decreases-table::fill
decreases-table::fill l = 4 * fields_depth (field l.one.now no_fields) + 2

abbrev pub decreases-table::take : goal.decreases-table::take
decreases-table::take l = 4 * tree_depth (tree l.value.now) + 1
