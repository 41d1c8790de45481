-- Each piece that `split` gives is one of the definition's parts, and `all` asks each of them.
use Rattle.std.proofs.Common.{rules, tests, ◌==◌}
use Rattle.std.proofs.lemmas.Iterator.Search.{all_from_yields_List}
use Rattle.std.proofs.lemmas.Iterator.Splits.{YieldsList-from_slice_split}
use Rattle.rocks_text.specs.Modules.{is_module_part}
use Rattle.rocks_text.proofs.module.are_module_parts.Goals as goal

pub returns : goal.returns
returns c =
    let answer = all_from_yields_List is_module_part _ _ c.all.result c.all.ensures.ran
    (YieldsList-from_slice_split _ (λ b. b == 46) c.args.text.now c.split.ensures.rest c.split.ensures.done c.split.ensures.closure (λ x b q k. search (rules, tests)))
    (λ x b q k. search (rules, tests)) in
    search (rules, answer)
