use Rattle.std.proofs.Common.{sym, subst}
use Rattle.lua_value.specs.Ordered.{IsOrdered}
use Rattle.lua_value.proofs.View.{served_at, value_at-place, value_at-gap}
use Rattle.lua_value.proofs.table.Table.get.Goals as goal

pub returns-in-Ok-clause-value : goal.returns-in-Ok-clause-value
returns-in-Ok-clause-value c =
    let ordered = subst IsOrdered (sym c.self.view_is) c.requires in
    rw (← c.self.view_is) (sym (value_at-place _ _ _ _ ordered c.in-Ok.ensures c.item.ensures))

pub returns-in-Ok-clause-served : goal.returns-in-Ok-clause-served
returns-in-Ok-clause-served c =
    let served = served_at _ _ _ (subst IsOrdered (sym c.self.view_is) c.requires) c.item.ensures in
    (served.1, served.2)

pub returns-in-Err-clause-value : goal.returns-in-Err-clause-value
returns-in-Err-clause-value c = rw (← c.self.view_is) (sym (value_at-gap _ _ _ c.in-Err.ensures))
