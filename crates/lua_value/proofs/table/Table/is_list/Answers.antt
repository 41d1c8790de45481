use Rattle.std.proofs.Common.{◌+◌, sym, subst, rules}
use Rattle.chunked_list.specs.Items.{items}
use Rattle.lua_value.specs.Pairs.{IsList}
use Rattle.lua_value.proofs.View.{list_opened, list_closed}
use Rattle.lua_value.proofs.table.Table.is_list.Goals as goal

pub returns-then-not-is_number : goal.returns-then-not-is_number
returns-then-not-is_number c =
    let es = items c.self.inside.entries in
    let l = c.loop-at in (
      λ no. cc,
      λ is. let h = list_opened es l.at (l.at + 1) c.item.result.now c.item.ensures (l.invariant.from_here (subst IsList (sym c.self.view_is) is)) in let found = c.is_number.ensures.1 h.0 in search rules,
    )

pub loop-at-preserved : goal.loop-at-preserved
loop-at-preserved c =
    let es = items c.self.inside.entries in
    let l = c.loop-at in
    let x = c.item.result.now in
    record {
      so_far = λ h. l.invariant.so_far (list_closed es l.at (l.at + 1) x c.item.ensures (c.is_number.ensures.0 (search rules)) h);
      from_here = λ h. (list_opened es l.at (l.at + 1) x c.item.ensures (l.invariant.from_here h)).1;
    }
