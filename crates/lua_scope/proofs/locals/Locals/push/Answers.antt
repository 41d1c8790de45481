use Rattle.std.proofs.Common.{sym, ◌∙◌, subst, arith}
use Rattle.lua_scope.specs.Places.{IsIndexed}
use Rattle.lua_scope.proofs.Named.{IsIndexed-push}
use Rattle.lua_scope.proofs.locals.Locals.push.Goals as goal

pub invariant_of-self-in-Ok : goal.invariant_of-self-in-Ok
invariant_of-self-in-Ok c =
    let same = c.in_ok-name_in_index.ensures ∙ sym c.in_ok-name_in_list.ensures in
    subst (λ list. IsIndexed list c.insert.new.self) (sym c.in_ok-push.ensures.items)
    (IsIndexed-push _ _ _ _ _ c.args.value _ c.self.invariant c.requires same (omega (arith, c.self.inside.list.ok.0)) c.in-Ok.ensures.updates.0)
