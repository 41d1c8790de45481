use Rattle.std.proofs.Common.{arith}
use Rattle.std.specs.Char.{is_ascii_alphabetic}
use Rattle.std.proofs.lemmas.List.Sums.{prefix_len-le-length}
use Rattle.rocks_version.proofs.Numbers.{short_drop}
use Rattle.rocks_version.proofs.Runs.{word_first}
use Rattle.rocks_version.proofs.component.first_word.Goals as goal

pub split_at-requires : goal.split_at-requires
split_at-requires c = omega (arith, c.letter_count.ensures, prefix_len-le-length is_ascii_alphabetic c.args.text.now)

pub returns-clause-components : goal.returns-clause-components
returns-clause-components c = rw (c.split_at.ensures.front, c.split_at.ensures.back, c.letter_count.ensures) (word_first c.args.text.now c.requires.begins)

pub returns-clause-short : goal.returns-clause-short
returns-clause-short c = rw c.split_at.ensures.back (short_drop c.args.text.now _ c.requires.short)
