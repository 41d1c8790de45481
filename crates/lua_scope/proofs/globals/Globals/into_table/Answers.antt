use Rattle.std.proofs.Common.{sym, ◌∙◌, subst}
use Rattle.lua_value.specs.Ordered.{IsOrdered}
use Rattle.lua_scope.specs.Views.{globals_of}
use Rattle.lua_scope.proofs.Taken.{with_all, with_all-nothing}
use Rattle.lua_scope.proofs.globals.Globals.into_table.Goals as goal

pub loop-name-init : goal.loop-name-init
loop-name-init c =
    let all = c.into_iter-name-iterator.ensures.into_iter_gives.0 in
    record {
      moved = (λ i. with_all (c.new-table.ensures i) (all i)) ∙ with_all-nothing c.self.inside.map.entries c.self.invariant.names ∙ c.self.view_is;
      ordered = subst IsOrdered (sym c.new-table.ensures) tt;
      left_ordered = subst (λ es. IsOrdered (globals_of es)) (sym all) c.self.invariant.table;
    }
