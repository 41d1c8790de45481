use Rattle.std.proofs.Common.{arith, ◌<◌, length, ℕ, inr, subst}
use Rattle.std.proofs.lemmas.Bool.Decides.{nat_tests}
use Rattle.rocks_constraint.specs.Alphabet.{may_part, IsCut}
use Rattle.rocks_constraint.proofs.Tails.{constraint_shorter, cut_length, fails_more, few_more, reads_more, tail_ended, tail_full, tail_wrong}
use Rattle.rocks_constraint.proofs.reader.read_tail.Goals as goal

pub returns-then-is_empty-clause-read : goal.returns-then-is_empty-clause-read
returns-then-is_empty-clause-read c =
    let cut = subst (λ (n : ℕ). IsCut (may_part n) c.loop-gap.text.now c.cut_gap.result.0.now c.cut_gap.result.1.now) c.len.ensures c.cut_gap.ensures in
    tail_ended c.args.whole.now c.loop-gap.text.now _ _ c.loop-gap.constraints cut (grind (arith, nat_tests)) c.loop-gap.invariant.2

pub returns-then-len-eq-MOST_CONSTRAINTS-clause-wrong : goal.returns-then-len-eq-MOST_CONSTRAINTS-clause-wrong
returns-then-len-eq-MOST_CONSTRAINTS-clause-wrong c =
    let cut = subst (λ (n : ℕ). IsCut (may_part n) c.loop-gap.text.now c.cut_gap.result.0.now c.cut_gap.result.1.now) c.len.ensures c.cut_gap.ensures in
    inr (tail_full c.args.start c.loop-gap.place c.args.whole.now c.loop-gap.text.now _ _ c.loop-gap.constraints cut (grind (arith, nat_tests)) c.loop-gap.invariant.3 (omega arith))

pub loop-gap-smaller : goal.loop-gap-smaller
loop-gap-smaller c =
    let less = constraint_shorter c.cut_gap.result.1.now c.in-Ok.constraint c.in-Ok.rest.now c.in-Ok.ensures.read in
    let size = cut_length _ c.loop-gap.text.now _ _ c.cut_gap.ensures in
    omega arith

pub loop-gap-preserved : goal.loop-gap-preserved
loop-gap-preserved c =
    let cut = subst (λ (n : ℕ). IsCut (may_part n) c.loop-gap.text.now c.cut_gap.result.0.now c.cut_gap.result.1.now) c.len.ensures c.cut_gap.ensures in
    let less = constraint_shorter c.cut_gap.result.1.now c.in-Ok.constraint c.in-Ok.rest.now c.in-Ok.ensures.read in
    let size = cut_length _ c.loop-gap.text.now _ _ c.cut_gap.ensures in
    let few : length c.loop-gap.constraints < 32 = omega arith in
    let one = c.in-Ok.ensures.read in
    let after = c.in_ok-push-in-Ok.ensures.ok in (
      few_more c.args.whole.now c.loop-gap.text.now _ _ _ _ _ _ few cut one after,
      omega arith,
      reads_more c.args.whole.now c.loop-gap.text.now _ _ _ _ _ _ few cut one after c.loop-gap.invariant.2,
      fails_more c.args.whole.now c.loop-gap.text.now _ _ _ _ _ _ few cut one after c.args.start c.loop-gap.place _ (omega arith) c.loop-gap.invariant.3,
    )

pub returns-in-Err-clause-wrong : goal.returns-in-Err-clause-wrong
returns-in-Err-clause-wrong c =
    let cut = subst (λ (n : ℕ). IsCut (may_part n) c.loop-gap.text.now c.cut_gap.result.0.now c.cut_gap.result.1.now) c.len.ensures c.cut_gap.ensures in
    tail_wrong c.args.start c.loop-gap.place c.args.whole.now c.loop-gap.text.now _ _ c.loop-gap.constraints cut (grind (arith, nat_tests)) c.loop-gap.invariant.3 c.in-Err.wrong (omega arith) c.in-Err.ensures.wrong
