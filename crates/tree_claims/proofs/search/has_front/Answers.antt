use Rattle.std.proofs.Common.{ℕ, List, nat_eq, sym, ap, ◌∙◌}
use Rattle.std.specs.List.{starts_with}
use Rattle.tree_claims.specs.declared.entry.Entry.{Entry}
use Rattle.tree_claims.proofs.Found.{no_front_there, front_at}
use Rattle.tree_claims.proofs.search.has_front.Goals as goal

pub returns-then-at-entries : goal.returns-then-at-entries
returns-then-at-entries c =
    front_at c.args.entries.now c.args.front.now c.first_from-at.result c.index-entries-at.result c.starts_with.result
    (record { up = c.requires; within = c.first_from-at.ensures.within; less = c.first_from-at.ensures.less; others = c.first_from-at.ensures.others })
    c.if-at-entries.true c.index-entries-at.is
    (c.starts_with.ensures.value ∙ ap (λ (p : List ℕ). starts_with nat_eq p c.args.front.now) (c.as_bytes.ensures.value ∙ c.as_str.ensures.value ∙ ap (λ (e : Entry). e.path) (sym c.index-entries-at.is)))

pub returns-else-at-entries : goal.returns-else-at-entries
returns-else-at-entries c =
    no_front_there c.args.entries.now c.args.front.now c.first_from-at.result
    (record { up = c.requires; within = c.first_from-at.ensures.within; less = c.first_from-at.ensures.less; others = c.first_from-at.ensures.others })
    c.if-at-entries.false
