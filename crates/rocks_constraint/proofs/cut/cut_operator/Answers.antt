use Rattle.std.proofs.Common.{arith}
use Rattle.std.proofs.lemmas.List.Sums.{prefix_len-le-length}
use Rattle.rocks_constraint.specs.Alphabet.{is_operator_byte}
use Rattle.rocks_constraint.proofs.Cuts.{cut_is}
use Rattle.rocks_constraint.proofs.cut.cut_operator.Goals as goal

pub split_at-requires : goal.split_at-requires
split_at-requires c = omega (arith, c.operator_count.ensures, prefix_len-le-length is_operator_byte c.args.text.now)

pub returns : goal.returns
returns c = rw (c.split_at.ensures.front, c.split_at.ensures.back, c.operator_count.ensures) (cut_is is_operator_byte c.args.text.now)
