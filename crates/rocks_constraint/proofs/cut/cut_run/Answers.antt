use Rattle.std.proofs.Common.{arith}
use Rattle.std.proofs.lemmas.List.Sums.{prefix_len-le-length}
use Rattle.rocks_version.specs.Texts.{is_version_byte}
use Rattle.rocks_constraint.proofs.Cuts.{cut_is}
use Rattle.rocks_constraint.proofs.cut.cut_run.Goals as goal

pub split_at-requires : goal.split_at-requires
split_at-requires c = omega (arith, c.run_count.ensures, prefix_len-le-length is_version_byte c.args.text.now)

pub returns : goal.returns
returns c = rw (c.split_at.ensures.front, c.split_at.ensures.back, c.run_count.ensures) (cut_is is_version_byte c.args.text.now)
