use Rattle.std.proofs.Common.{not, arith}
use Rattle.std.specs.Char.{is_ascii_alphanumeric}
use Rattle.std.proofs.lemmas.List.Sums.{prefix_len-le-length}
use Rattle.rocks_version.proofs.Numbers.{short_drop}
use Rattle.rocks_version.proofs.Runs.{past_others, begins_past}
use Rattle.rocks_version.proofs.component.past_separators.Goals as goal

pub split_at-requires : goal.split_at-requires
split_at-requires c = omega (arith, c.separator_count.ensures, prefix_len-le-length (λ b. not (is_ascii_alphanumeric b)) c.args.body.now)

pub returns-clause-components : goal.returns-clause-components
returns-clause-components c = rw (c.split_at.ensures.back, c.separator_count.ensures) (past_others c.args.body.now)

pub returns-clause-begins : goal.returns-clause-begins
returns-clause-begins c = rw (c.split_at.ensures.back, c.separator_count.ensures) (begins_past c.args.body.now)

pub returns-clause-short : goal.returns-clause-short
returns-clause-short c = rw c.split_at.ensures.back (short_drop c.args.body.now _ c.requires)
