use Rattle.std.proofs.Common.{ℕ, ◌-◌, not, length, refl, ap, arith}
use Rattle.std.proofs.lemmas.List.{take_rest}
use Rattle.std.proofs.lemmas.List.Sums.{suffix_len-le-length}
use Rattle.rocks_version.specs.Texts.{is_dash}
use Rattle.rocks_version.proofs.Parts.{behind_dash, revision_at}
use Rattle.rocks_version.proofs.text.parts.Goals as goal

pub overflow_sub-behind : goal.overflow_sub-behind
overflow_sub-behind c = omega (arith, c.bytes_behind_dash.ensures, suffix_len-le-length (λ b. not (is_dash b)) c.args.text.now)

pub returns-then-is_numeral : goal.returns-then-is_numeral
returns-then-is_numeral c =
    let text = c.args.text.now in
    let same = ap (λ (n : ℕ). length text - n) c.bytes_behind_dash.ensures in
    (revision_at text _ _ same (omega arith) c.if-is_numeral.ensures, rw c.bytes_behind_dash.ensures refl, rw c.bytes_behind_dash.ensures (take_rest text (behind_dash text)))

pub returns-else-is_numeral : goal.returns-else-is_numeral
returns-else-is_numeral c =
    let text = c.args.text.now in
    let same = ap (λ (n : ℕ). length text - n) c.bytes_behind_dash.ensures in
    revision_at text _ _ same (omega arith) c.if-is_numeral.ensures
