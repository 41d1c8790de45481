use Rattle.std.proofs.Common.{◌≡◌, ℕ, drop, map, All}
use Rattle.std.specs.Vec.Iter.{into_iter_items}
use Rattle.lua_value.specs.Ordered.{IsServed}
use Rattle.lua_value.specs.View.{datum}
use Rattle.lua_eval.specs.Names.{paired}
use Rattle.lua_eval.specs.Running.{state_of}
use Rattle.lua_eval.specs.Values.{assign_all}
use Rattle.lua_eval.proofs.run.assign_all.Given as goal

abbrev pub invariant-loop-named : goal.invariant-loop-named
invariant-loop-named l = record {
  assigned : (sum : ℕ) → assign_all (paired (drop l.named-index l.names) (map datum (into_iter_items l.left))) (state_of l.scope sum)
      ≡ assign_all (paired l.names (map datum l.fn.values.items)) (state_of l.initial.scope sum);
  served : All IsServed (map datum (into_iter_items l.left));
}
