use Rattle.std.proofs.Common.{◌≡◌, suc, List, ◌∷◌, ◌++◌, map, All, Option, Some, None, subst, arith}
use Rattle.std.specs.Prelude.{option_to_list, unwrap_or}
use Rattle.std.specs.Vec.Iter.{into_iter_items}
use Rattle.lua_value.specs.declared.table.Value.{Value}
use Rattle.lua_value.specs.declared.table.Value.TheVariants.{Nil}
use Rattle.lua_value.specs.Ordered.{IsServed}
use Rattle.lua_value.specs.View.{datum}
use Rattle.lua_eval.proofs.run.next_or_nil.Goals as goal

-- of values that are served, so are the first and the others
served_apart : (v : Value) (new : List Value) → All IsServed (map datum (v ∷ new)) → IsServed (datum v) × All IsServed (map datum new)
served_apart v new all = (all 0 (datum v) (omega arith), λ k d within. all (suc k) d (omega (arith, within)))

served_next : (r : Option Value) (old new : List Value) → old ≡ option_to_list r ++ new → All IsServed (map datum old) → IsServed (datum (unwrap_or r Nil)) × All IsServed (map datum new)
served_next None old new e all = (tt, subst (λ vs. All IsServed (map datum vs)) e all)
served_next (Some v) old new e all = served_apart v new (subst (λ vs. All IsServed (map datum vs)) e all)

pub returns-clause-served : goal.returns-clause-served
returns-clause-served c = λ all. rw (c.unwrap_or.ensures) (served_next c.next.result (into_iter_items c.args.left.now) (into_iter_items c.next.new.self) c.next.ensures.items all)
