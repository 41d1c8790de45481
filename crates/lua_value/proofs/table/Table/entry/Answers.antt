use Rattle.std.proofs.Common.{sym, ap, ◌∙◌, subst, option_map, arith}
use Rattle.chunked_list.specs.Items.{items}
use Rattle.lua_value.specs.Ordered.{IsOrdered}
use Rattle.lua_value.proofs.View.{seen, listed-pairs_of, served_at, none_beyond}
use Rattle.lua_value.proofs.table.Table.entry.Goals as goal

pub returns-then-at-len-clause-value : goal.returns-then-at-len-clause-value
returns-then-at-len-clause-value c =
    rw (← c.self.view_is) (sym (listed-pairs_of _ c.args.at ∙ ap (option_map seen) c.item.ensures))

pub returns-then-at-len-clause-served : goal.returns-then-at-len-clause-served
returns-then-at-len-clause-served c =
    served_at _ _ _ (subst IsOrdered (sym c.self.view_is) c.requires) c.item.ensures

pub returns-clause-value : goal.returns-clause-value
returns-clause-value c =
    let es = items c.self.inside.entries in
    rw (← c.self.view_is) (sym (listed-pairs_of es c.args.at ∙ ap (option_map seen) (none_beyond es c.args.at (omega arith))))
