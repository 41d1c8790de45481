use Rattle.std.proofs.Common.{◌≢◌, sym, ap, ◌∙◌, subst, Some, IfSome}
use Rattle.lua_value.specs.declared.key.Key.TheVariants.{Text}
use Rattle.lua_value.specs.Ordered.{IsServed}
use Rattle.lua_value.specs.Pairs.{nil}
use Rattle.lua_value.proofs.Puts.{value_at-served}
use Rattle.lua_scope.specs.Views.{globals_of}
use Rattle.lua_scope.proofs.Taken.{global_value, value_at-globals_of, value_at-found}
use Rattle.lua_scope.proofs.globals.Globals.get.Goals as goal

pub returns-in_err-value-clause-value : goal.returns-in_err-value-clause-value
returns-in_err-value-clause-value c =
    rw (c.from_residual.ensures, ← c.self.view_is)
    (sym (value_at-globals_of c.args.name.now c.self.inside.map.entries c.self.invariant.names ∙ ap global_value (sym c.in_err-value.ensures.value)))

pub returns-in-Nil-clause-value : goal.returns-in-Nil-clause-value
returns-in-Nil-clause-value c =
    rw (← c.self.view_is)
    (sym (value_at-globals_of c.args.name.now c.self.inside.map.entries c.self.invariant.names ∙ ap global_value (sym c.in_ok-value.ensures.value)
    ∙ ap (λ v. global_value (Some v)) c.in-Nil.is))

pub returns-in_default : goal.returns-in_default
returns-in_default c =
    let es = c.self.inside.map.entries in
    let found = value_at-found c.args.name.now es c.in_ok-value.value.now c.self.invariant.names (sym c.in_ok-value.ensures.value) c.in_default.not-Nil in
    let served = subst (λ o. IfSome o (λ v. (v ≢ nil) × IsServed v)) found (value_at-served (Text c.args.name.now) (globals_of es) c.self.invariant.table) in
    record {
      value = rw (← c.self.view_is) (sym found);
      not_nil = c.in_default.not-Nil;
      served = served.1;
    }
