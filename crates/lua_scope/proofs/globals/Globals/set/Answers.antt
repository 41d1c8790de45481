use Rattle.std.proofs.Common.{sym, ap, ◌∙◌, subst}
use Rattle.lua_value.specs.Ordered.{IsOrdered}
use Rattle.lua_value.specs.View.{datum}
use Rattle.lua_scope.specs.Globals.{with_global}
use Rattle.lua_scope.specs.Views.{globals_of}
use Rattle.lua_scope.proofs.Taken.{globals_of-insert_entry}
use Rattle.lua_scope.proofs.Unset.{IsOrdered-with_global}
use Rattle.lua_scope.proofs.globals.Globals.set.Goals as goal

pub invariant_of-self-2 : goal.invariant_of-self-2
invariant_of-self-2 c =
    let before = c.self.inside.map.entries in
    let after = ap globals_of c.in_ok-insert.ensures.entries ∙ globals_of-insert_entry c.in_ok-copied.copied c.args.value before c.self.invariant.names in
    record {
      names = c.insert.ensures.ordered;
      table = subst IsOrdered (sym after) (IsOrdered-with_global c.in_ok-copied.copied (datum c.args.value) (globals_of before) c.requires c.self.invariant.table);
    }

pub returns-clause-ok : goal.returns-clause-ok
returns-clause-ok c =
    let before = c.self.inside.map.entries in
    ap globals_of c.in_ok-insert.ensures.entries
    ∙ globals_of-insert_entry c.in_ok-copied.copied c.args.value before c.self.invariant.names
    ∙ (λ i. with_global (c.in_ok-copied.ensures i) (datum c.args.value) (c.self.view_is i))
