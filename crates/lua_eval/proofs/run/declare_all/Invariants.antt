use Rattle.std.proofs.Common.{◌≡◌, ◌++◌, drop, map, All}
use Rattle.std.specs.Vec.Iter.{into_iter_items}
use Rattle.lua_value.specs.Ordered.{IsServed}
use Rattle.lua_value.specs.View.{datum}
use Rattle.lua_eval.specs.Names.{paired}
use Rattle.lua_eval.proofs.run.declare_all.Given as goal

abbrev pub invariant-loop-named : goal.invariant-loop-named
invariant-loop-named l = record {
  declared : l.locals ++ paired (drop l.named-index l.names) (map datum (into_iter_items l.left))
      ≡ l.initial.locals ++ paired l.names (map datum l.fn.values.items);
  served : All IsServed (map datum (into_iter_items l.left));
}
