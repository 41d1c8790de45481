use Rattle.std.proofs.Common.{ap, ◌∙◌}
use Rattle.std.specs.List.{take_while}
use Rattle.std.proofs.lemmas.List.{take_rest}
use Rattle.tree_claims.proofs.Found.{first_from_same, has_path, met_at}
use Rattle.tree_claims.proofs.search.is_met_at.Goals as goal

pub returns : goal.returns
returns c =
    let place = first_from_same c.args.entries.now _ c.args.mine.now.path c.first_from-at.result (c.as_bytes.ensures.value ∙ c.as_str.ensures.value)
    (record { up = c.requires; within = c.first_from-at.ensures.within; less = c.first_from-at.ensures.less; others = c.first_from-at.ensures.others }) in
    met_at c.args.entries.now c.args.mine.now c.first_from-at.result c.front_row.result.now c.has_apart.result place
    (c.front_row.ensures ∙ ap (take_while (has_path c.args.mine.now.path)) (take_rest c.args.entries.now c.first_from-at.result)) c.has_apart.ensures
