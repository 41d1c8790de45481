use Rattle.std.proofs.Common.{ap, drop, sym, ◌∙◌}
use Rattle.std.specs.List.{take_while}
use Rattle.std.proofs.lemmas.List.{take_rest}
use Rattle.tree_claims.specs.declared.entry.Entry.{Entry}
use Rattle.tree_claims.proofs.Found.{group_is, has_path}
use Rattle.tree_claims.proofs.search.same_path.Goals as goal

pub returns : goal.returns
returns c =
    group_is c.args.entries.now c.args.first c.index-entries-first.result c.front_row.result.now c.requires.in_order c.requires.within c.index-entries-first.is
    (c.front_row.ensures ∙ ap (take_while (has_path _)) (take_rest c.args.entries.now c.args.first) ∙ ap (λ (e : Entry). take_while (has_path e.path) (drop c.args.first c.args.entries.now)) (sym c.index-entries-first.is))
