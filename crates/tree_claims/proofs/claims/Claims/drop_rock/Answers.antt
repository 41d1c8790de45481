use Rattle.std.proofs.Common.{not, rules, ap, ◌∙◌}
use Rattle.std.proofs.lemmas.Fn.{filter_same}
use Rattle.tree_claims.specs.Rocks.{is_same_rock, without_rock}
use Rattle.tree_claims.proofs.Held.{held_by, held_without, tells_rock}
use Rattle.tree_claims.proofs.claims.Claims.drop_rock.Goals as goal

pub invariant_of-self : goal.invariant_of-self
invariant_of-self c =
    held_by c.retain.new.self.items (without_rock c.args.key.now c.self.inside.rocks.items) c.retain-2.new.self.items _
    (filter_same _ (λ rock. not (is_same_rock rock.0 c.args.key.now)) _ (λ x b f h. search rules) c.self.inside.rocks.items c.retain.new.self.items c.retain.ensures.filtered)
    (filter_same _ (λ entry. not (is_same_rock entry.key c.args.key.now)) _ (λ x b f h. search rules) c.self.inside.index.items c.retain-2.new.self.items c.retain-2.ensures.filtered)
    (held_without c.self.inside.rocks.items c.args.key.now c.self.inside.index.items c.self.invariant)

pub returns-clause-was : goal.returns-clause-was
returns-clause-was c = tells_rock c.args.key.now c.deref.result.now c.args.self.now c.has_rock-was.result (c.deref.ensures.value ∙ c.self.view_is) c.has_rock-was.ensures

pub returns-clause-rest : goal.returns-clause-rest
returns-clause-rest c =
    filter_same _ (λ rock. not (is_same_rock rock.0 c.args.key.now)) _ (λ x b f h. search rules) c.self.inside.rocks.items c.retain.new.self.items c.retain.ensures.filtered
    ∙ ap (without_rock c.args.key.now) c.self.view_is
