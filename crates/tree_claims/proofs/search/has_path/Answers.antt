use Rattle.std.proofs.Common.{ℕ, List, sym, ap, ◌∙◌}
use Rattle.std.specs.Str.{bytes_eq}
use Rattle.tree_claims.specs.declared.entry.Entry.{Entry}
use Rattle.tree_claims.proofs.Found.{no_path_there, path_at}
use Rattle.tree_claims.proofs.search.has_path.Goals as goal

pub returns-then-at-entries : goal.returns-then-at-entries
returns-then-at-entries c =
    path_at c.args.entries.now c.args.path.now c.first_from-at.result c.index-entries-at.result c.eq.result
    (record { up = c.requires; within = c.first_from-at.ensures.within; less = c.first_from-at.ensures.less; others = c.first_from-at.ensures.others })
    c.if-at-entries.true c.index-entries-at.is
    (c.eq.ensures ∙ ap (λ (p : List ℕ). bytes_eq p c.args.path.now) (c.as_bytes.ensures.value ∙ c.as_str.ensures.value ∙ ap (λ (e : Entry). e.path) (sym c.index-entries-at.is)))

pub returns-else-at-entries : goal.returns-else-at-entries
returns-else-at-entries c =
    no_path_there c.args.entries.now c.args.path.now c.first_from-at.result
    (record { up = c.requires; within = c.first_from-at.ensures.within; less = c.first_from-at.ensures.less; others = c.first_from-at.ensures.others })
    c.if-at-entries.false
