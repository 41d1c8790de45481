use Rattle.std.proofs.Common.{arith}
use Rattle.std.specs.Char.{is_ascii_digit}
use Rattle.std.proofs.lemmas.List.Sums.{prefix_len-le-length}
use Rattle.rocks_version.proofs.Numbers.{front_passes, short_drop}
use Rattle.rocks_version.proofs.Runs.{number_first}
use Rattle.rocks_version.proofs.component.first_number.Goals as goal

pub split_at-requires : goal.split_at-requires
split_at-requires c = omega (arith, c.digit_count.ensures, prefix_len-le-length is_ascii_digit c.args.text.now)

pub number-requires-clause-digits : goal.number-requires-clause-digits
number-requires-clause-digits c = rw (c.split_at.ensures.front, c.digit_count.ensures) (front_passes is_ascii_digit c.args.text.now)

pub returns-clause-components : goal.returns-clause-components
returns-clause-components c = rw (c.number.ensures, c.split_at.ensures.front, c.split_at.ensures.back, c.digit_count.ensures) (number_first c.args.text.now c.requires.begins)

pub returns-clause-short : goal.returns-clause-short
returns-clause-short c = rw c.split_at.ensures.back (short_drop c.args.text.now _ c.requires.short)
