use Rattle.std.proofs.Common.{sym, ◌∙◌, arith}
use Rattle.lua_scope.proofs.Named.{place_within, latest-at, latest-nowhere, served_at}
use Rattle.lua_scope.proofs.locals.Locals.get.Goals as goal

pub index-requires : goal.index-requires
index-requires c =
    let found = sym (c.self.invariant.places c.args.name.now) ∙ sym c.in-Some.ensures.value in
    omega (arith, place_within c.args.name.now c.self.inside.list.items _ found, c.self.inside.list.ok.0)

pub returns-in-Some-clause-value : goal.returns-in-Some-clause-value
returns-in-Some-clause-value c =
    let found = sym (c.self.invariant.places c.args.name.now) ∙ sym c.in-Some.ensures.value in
    rw (← c.self.view_is) (sym (latest-at c.args.name.now c.self.inside.list.items _ _ found c.index.ensures))

pub returns-in-Some-clause-served : goal.returns-in-Some-clause-served
returns-in-Some-clause-served c =
    let found = sym (c.self.invariant.places c.args.name.now) ∙ sym c.in-Some.ensures.value in
    served_at c.self.inside.list.items _ _ _ c.self.invariant (place_within c.args.name.now _ _ found) c.index.ensures

pub returns-in-None-clause-value : goal.returns-in-None-clause-value
returns-in-None-clause-value c =
    let missing = sym (c.self.invariant.places c.args.name.now) ∙ sym c.in-None.ensures.value in
    rw (← c.self.view_is) (sym (latest-nowhere c.args.name.now c.self.inside.list.items missing))
