use Rattle.std.proofs.Common.{arith, ◌∙◌, inr, sym}
use Rattle.rocks_constraint.specs.declared.reader.Wrong.TheVariants.{NoMemory}
use Rattle.rocks_constraint.specs.Faults.{no_operator}
use Rattle.rocks_constraint.proofs.Places.{place_within, read_cases, wrong_constraint, wrong_within}
use Rattle.rocks_constraint.proofs.reader.read_constraint.Goals as goal

pub returns-in_default-clause-wrong : goal.returns-in_default-clause-wrong
returns-in_default-clause-wrong c =
    inr (no_operator c.args.place c.args.text.now c.cut_operator.result.0.now c.cut_operator.result.1.now c.cut_operator.ensures (sym c.operator_of.ensures ∙ c.in_default.is))

pub version_wrong-requires : goal.version_wrong-requires
version_wrong-requires c =
    let cases = read_cases c.cut_run.result.0.now c.run_text.result.now c.in-Err.fault c.run_text.ensures c.in-Err.ensures.version c.in-Err.ensures.fault in
    let within = place_within c.args.place c.args.text.now _ _ _ _ _ _ c.in-Some.operator c.in-Err.fault NoMemory c.cut_operator.ensures (sym c.operator_of.ensures ∙ c.in-Some.is) c.cut_blanks.ensures c.cut_run.ensures cases in
    omega arith

pub returns-in-Err-clause-wrong : goal.returns-in-Err-clause-wrong
returns-in-Err-clause-wrong c =
    let cases = read_cases c.cut_run.result.0.now c.run_text.result.now c.in-Err.fault c.run_text.ensures c.in-Err.ensures.version c.in-Err.ensures.fault in
    wrong_constraint c.args.place c.args.text.now _ _ _ _ _ _ c.in-Some.operator c.in-Err.fault c.version_wrong.result c.cut_operator.ensures (sym c.operator_of.ensures ∙ c.in-Some.is) c.cut_blanks.ensures c.cut_run.ensures cases
    c.version_wrong.ensures.place c.version_wrong.ensures.memory

pub returns-in-Err-clause-within : goal.returns-in-Err-clause-within
returns-in-Err-clause-within c =
    let cases = read_cases c.cut_run.result.0.now c.run_text.result.now c.in-Err.fault c.run_text.ensures c.in-Err.ensures.version c.in-Err.ensures.fault in
    wrong_within c.args.place c.args.text.now _ _ _ _ _ _ c.in-Some.operator c.in-Err.fault c.version_wrong.result c.cut_operator.ensures (sym c.operator_of.ensures ∙ c.in-Some.is) c.cut_blanks.ensures c.cut_run.ensures cases
    c.version_wrong.ensures.place c.version_wrong.ensures.memory
