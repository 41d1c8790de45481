use Rattle.std.proofs.Common.{◌≡◌, ℕ, ◌<◌, ◌+◌, ◌*◌, ◌∙◌, get_or, subst, arith}
use Rattle.std.specs.Prelude.{unwrap_or}
use Rattle.lua_lexer.specs.Alphabet.{digit_of}
use Rattle.lua_lexer.proofs.DigitValues.{passes, over_quotient}
use Rattle.lua_lexer.proofs.numeral.value_within.Goals as goal
use Rattle.lua_lexer.proofs.numeral.value_within.Goals.{then-digit-limit-via-then-digit-limit, then-digit-limit-via-else-digit-limit+then-value-limit}

pub returns-then-digit-limit : goal.returns-then-digit-limit
returns-then-digit-limit c =
    let d = unwrap_or (digit_of (get_or c.args.digits.now c.loop-digit.digit-index 0)) 0 in
    let read : c.from-digit.result ≡ d = c.from-digit.ensures ∙ c.weight.ensures in
    let over : c.args.limit < c.loop-digit.value * c.args.base + c.from-digit.result = elim c.then-digit-limit.branch [
      | then-digit-limit-via-then-digit-limit w ↦ omega arith
      | then-digit-limit-via-else-digit-limit+then-value-limit w ↦ over_quotient c.args.limit c.args.base c.loop-digit.value c.from-digit.result c.requires w.if-digit-limit.false w.if-value-limit.true
    ] in
    passes c.args.limit c.args.base c.loop-digit.value c.loop-digit.digit-index c.args.digits.now c.requires c.loop-digit-test.true c.loop-digit.invariant.so_far
    (subst (λ (n : ℕ). c.args.limit < c.loop-digit.value * c.args.base + n) read over)
