use Rattle.std.proofs.Common.{inr}
use Rattle.rocks_constraint.proofs.Names.{behind_wrong, name_wrong}
use Rattle.rocks_constraint.proofs.reader.read_text.Goals as goal

pub returns-in-Err-BadName-clause-wrong : goal.returns-in-Err-BadName-clause-wrong
returns-in-Err-BadName-clause-wrong c =
    inr (name_wrong c.args.text.now _ _ _ _ c.run_text.result.now c.cut_blanks.ensures c.cut_run.ensures c.run_text.ensures (c.from_text.ensures.bad.0 (cc)))

pub returns-in-Err-read_tail-clause-wrong : goal.returns-in-Err-read_tail-clause-wrong
returns-in-Err-read_tail-clause-wrong c =
    behind_wrong c.args.text.now _ _ _ _ c.run_text.result.now c.cut_blanks.ensures c.cut_run.ensures c.run_text.ensures c.in-Err-read_tail.wrong
    (λ bad. let e = c.from_text.ensures.bad.1 bad in cc) c.in-Err-read_tail.ensures.wrong
