use Rattle.std.proofs.Common.{sym, ap, ◌∙◌, arith}
use Rattle.std.specs.Prelude.{is_some}
use Rattle.lua_scope.proofs.Named.{place_within, latest-at, latest-nowhere, reset-at, IsIndexed-set}
use Rattle.lua_scope.proofs.locals.Locals.set.Goals as goal

pub index_mut-local-requires : goal.index_mut-local-requires
index_mut-local-requires c =
    let found = sym (c.self.invariant.places c.args.name.now) ∙ sym c.in-Some.ensures.value in
    omega (arith, place_within c.args.name.now c.self.inside.list.items _ found, c.self.inside.list.ok.0)

pub invariant_of-self : goal.invariant_of-self
invariant_of-self c =
    let found = sym (c.self.invariant.places c.args.name.now) ∙ sym c.in-Some.ensures.value in
    IsIndexed-set c.self.inside.list.items _ _ _ _ c.self.invariant (place_within c.args.name.now _ _ found) c.index_mut-local.ensures.value c.requires

pub returns-in-Some-clause-found : goal.returns-in-Some-clause-found
returns-in-Some-clause-found c =
    let found = sym (c.self.invariant.places c.args.name.now) ∙ sym c.in-Some.ensures.value in
    rw (← c.self.view_is) (ap is_some (latest-at c.args.name.now c.self.inside.list.items _ _ found c.index_mut-local.ensures.value))

pub returns-in-Some-clause-set : goal.returns-in-Some-clause-set
returns-in-Some-clause-set c =
    let found = sym (c.self.invariant.places c.args.name.now) ∙ sym c.in-Some.ensures.value in
    rw (← c.self.view_is) (reset-at c.args.name.now c.self.inside.list.items _ _ c.args.value found c.index_mut-local.ensures.value)

pub returns-in-None-clause-missing : goal.returns-in-None-clause-missing
returns-in-None-clause-missing c =
    let missing = sym (c.self.invariant.places c.args.name.now) ∙ sym c.in-None.ensures.value in
    rw (← c.self.view_is) (latest-nowhere c.args.name.now c.self.inside.list.items missing)
