use Rattle.std.proofs.Common.{arith}
use Rattle.std.proofs.lemmas.List.Sums.{prefix_len-le-length}
use Rattle.rocks_constraint.specs.Alphabet.{may_part}
use Rattle.rocks_constraint.proofs.Cuts.{cut_is}
use Rattle.rocks_constraint.proofs.cut.cut_gap.Goals as goal

pub split_at-requires : goal.split_at-requires
split_at-requires c = omega (arith, c.gap_count.ensures, prefix_len-le-length (may_part c.args.count) c.args.text.now)

pub returns : goal.returns
returns c = rw (c.split_at.ensures.front, c.split_at.ensures.back, c.gap_count.ensures) (cut_is (may_part c.args.count) c.args.text.now)
