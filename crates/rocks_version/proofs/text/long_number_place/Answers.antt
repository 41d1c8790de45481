use Rattle.std.proofs.Common.{◌≤◌, drop, arith}
use Rattle.std.specs.List.{prefix_len}
use Rattle.std.specs.Char.{is_ascii_digit}
use Rattle.std.proofs.lemmas.List.{take_rest}
use Rattle.rocks_version.proofs.Numbers.{long_number_next}
use Rattle.rocks_version.proofs.text.long_number_place.Goals as goal

pub loop-place-preserved : goal.loop-place-preserved
loop-place-preserved c =
    let text = c.args.text.now in
    let i = c.loop-place.place in
    let count = rw (take_rest text i) at c.digit_count.ensures in
    let short : prefix_len is_ascii_digit (drop i text) ≤ 18 = omega arith in
    omega (arith, long_number_next text i (omega arith) short)
