use Rattle.std.proofs.Common.{◌∙◌}
use Rattle.std.specs.Option.{option_copied}
use Rattle.tree_claims.proofs.FoundClash.{are_indexed, first_found, none_found, there_path, told_clash}
use Rattle.tree_claims.proofs.claims.Claims.clash.Goals as goal

pub returns-in_default-clause-clash : goal.returns-in_default-clause-clash
returns-in_default-clause-clash c =
    none_found c.args.self.now c.args.key.now c.args.items.now c.self.inside.index.items c.in_ok-own.own.items c.deref.result.now c.deref-2.result.now c.in_ok-first.field-0
    (are_indexed c.self.inside.rocks.items c.args.self.now c.args.key.now c.args.items.now c.self.inside.index.items c.in_ok-own.own.items c.self.view_is c.self.invariant c.in_ok-own.ensures) c.deref.ensures.value c.deref-2.ensures.value c.in_default.is c.in_ok-first.ensures

pub returns-clause-clash : goal.returns-clause-clash
returns-clause-clash c =
    let found = first_found c.self.inside.index.items c.in_ok-own.own.items c.deref.result.now c.deref-2.result.now c.in-Some.first c.in_ok-first.field-0 c.deref.ensures.value c.deref-2.ensures.value c.in-Some.is c.in_ok-first.ensures in
    told_clash c.args.self.now c.args.key.now c.args.items.now c.self.inside.index.items c.in_ok-own.own.items c.deref-3.result.now c.deref-4.result.now c.deref-5.result.now c.in-Some.first c.same_path-mine.result.now
    c.hits_any.result (option_copied c.least_hit.result) c.in_ok-copy.field-0 c.in_ok-copy-2.field-0 c.in_ok-copy-3.field-0
    (are_indexed c.self.inside.rocks.items c.args.self.now c.args.key.now c.args.items.now c.self.inside.index.items c.in_ok-own.own.items c.self.view_is c.self.invariant c.in_ok-own.ensures) found (there_path c.in_ok-own.own.items c.in-Some.first c.index.result.now c.in_ok-copy.field-0 found.0 c.index.ensures c.in_ok-copy.ensures)
    c.deref-3.ensures.value c.same_path-mine.ensures c.deref-4.ensures.value c.hits_any.ensures c.deref-5.ensures.value c.least_hit.ensures
    c.in_ok-copy-2.ensures (c.in_ok-copy-3.ensures ∙ c.first_of-other.ensures)
