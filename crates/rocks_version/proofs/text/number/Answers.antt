use Rattle.std.proofs.Common.{arith}
use Rattle.rocks_version.proofs.Values.{next_value}
use Rattle.rocks_version.proofs.text.number.Goals as goal

pub overflow_mul-number : goal.overflow_mul-number
overflow_mul-number c =
    let more = next_value c.args.digits.now c.loop-digit.digit-index c.requires.digits c.requires.few (omega arith) in
    omega arith

pub overflow_add-number : goal.overflow_add-number
overflow_add-number c =
    let more = next_value c.args.digits.now c.loop-digit.digit-index c.requires.digits c.requires.few (omega arith) in
    omega arith

pub loop-digit-preserved : goal.loop-digit-preserved
loop-digit-preserved c =
    let more = next_value c.args.digits.now c.loop-digit.digit-index c.requires.digits c.requires.few (omega arith) in
    omega arith
