use Rattle.std.proofs.Common.{◌<◌, arith, length, sym, ap, subst}
use Rattle.std.proofs.lemmas.Bool.Decides.{nat_tests}
use Rattle.rocks_version.proofs.Runs.{some_component, some_text}
use Rattle.rocks_version.proofs.component.has_component.Goals as goal

pub returns : goal.returns
returns c =
    let text = c.past_separators.result.now in
    let same = ap length c.past_separators.ensures.components in (
      λ yes. let some : 0 < length text = grind (arith, nat_tests, yes) in
          subst (λ n. 0 < n) same (some_component text some (c.past_separators.ensures.begins some)),
      λ has. let some = some_text text (subst (λ n. 0 < n) (sym same) has) in
          grind (arith, nat_tests, some),
    )
