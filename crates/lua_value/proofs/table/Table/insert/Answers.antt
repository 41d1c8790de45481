use Rattle.std.proofs.Common.{sym, ap, ◌∙◌, subst}
use Rattle.lua_value.specs.Ordered.{IsOrdered}
use Rattle.lua_value.specs.Pairs.{put}
use Rattle.lua_value.specs.View.{datum, pairs_of}
use Rattle.lua_value.proofs.Puts.{IsOrdered-put}
use Rattle.lua_value.proofs.View.{no_nil, put-place, put-gap, value_at-place, value_at-gap}
use Rattle.lua_value.proofs.table.Table.insert.Goals as goal

pub returns-in-Ok-clause-ok : goal.returns-in-Ok-clause-ok
returns-in-Ok-clause-ok c =
    let ordered = subst IsOrdered (sym c.self.view_is) c.requires.ordered in
    ap pairs_of c.replace-old.ensures.now ∙ put-place _ _ _ _ ordered c.in-Ok.ensures
    ∙ ap (put c.args.key (datum c.args.value)) c.self.view_is

pub returns-in-Ok-clause-ordered : goal.returns-in-Ok-clause-ordered
returns-in-Ok-clause-ordered c =
    let not_nil = no_nil c.args.value c.requires.not_nil in
    subst IsOrdered (sym (returns-in-Ok-clause-ok c))
    (IsOrdered-put _ _ _ c.requires.key not_nil c.requires.value c.requires.ordered)

pub returns-in-Ok-clause-old : goal.returns-in-Ok-clause-old
returns-in-Ok-clause-old c =
    let ordered = subst IsOrdered (sym c.self.view_is) c.requires.ordered in
    rw (← c.self.view_is) (sym (value_at-place _ _ _ _ ordered c.in-Ok.ensures c.replace-old.ensures.was))

pub returns-in_ok-insert-in-Err-clause-ok : goal.returns-in_ok-insert-in-Err-clause-ok
returns-in_ok-insert-in-Err-clause-ok c =
    ap pairs_of c.in_ok-insert-in-Err.ensures.ok ∙ put-gap _ _ _ _ c.in-Err.ensures
    ∙ ap (put c.args.key (datum c.args.value)) c.self.view_is

pub returns-in_ok-insert-in-Err-clause-ordered : goal.returns-in_ok-insert-in-Err-clause-ordered
returns-in_ok-insert-in-Err-clause-ordered c =
    let not_nil = no_nil c.args.value c.requires.not_nil in
    subst IsOrdered (sym (returns-in_ok-insert-in-Err-clause-ok c))
    (IsOrdered-put _ _ _ c.requires.key not_nil c.requires.value c.requires.ordered)

pub returns-in_ok-insert-in-Err-clause-old : goal.returns-in_ok-insert-in-Err-clause-old
returns-in_ok-insert-in-Err-clause-old c =
    rw (← c.self.view_is) (sym (value_at-gap _ _ _ c.in-Err.ensures))
