use Rattle.std.proofs.Common.{arith}
use Rattle.std.proofs.lemmas.Bool.Decides.{nat_tests}
use Rattle.rocks_version.proofs.Padding.{compared_equal, compared_unequal, compared_none}
use Rattle.rocks_version.proofs.Runs.{no_components}
use Rattle.rocks_version.proofs.order.+compare_components.Goals as goal

pub returns-then-is_empty-2 : goal.returns-then-is_empty-2
returns-then-is_empty-2 t c = compared_none _ _ (no_components c.args.left.now (grind (arith, nat_tests))) (no_components c.args.right.now (grind (arith, nat_tests)))

pub returns-in-Equal : goal.returns-in-Equal
returns-in-Equal t c =
    rw (c.compare_components.ensures, c.first.ensures.rest, c.first-2.ensures.rest)
    (compared_equal _ _ _ _ _ _ _ c.first.ensures.step c.first.ensures.place c.first-2.ensures.step c.first-2.ensures.place c.compare_rungs.ensures c.in-Equal.is)

pub returns-in_default : goal.returns-in_default
returns-in_default t c =
    compared_unequal _ _ _ _ _ _ _ c.first.ensures.step c.first.ensures.place c.first-2.ensures.step c.first-2.ensures.place c.compare_rungs.ensures c.in_default.not-Equal
