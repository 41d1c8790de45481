use Rattle.std.proofs.Common.{length, string_bytes, arith, sym, ◌∙◌, ap}
use Rattle.rocks_command.proofs.FromWords.{few_after, few_from}
use Rattle.rocks_command.proofs.words.after_from.Goals as goal

pub returns-in_default-clause-rest : goal.returns-in_default-clause-rest
returns-in_default-clause-rest c = sym (few_after string_bytes c.loop-rest.rest.now c.in_default.len_below) ∙ c.loop-rest.invariant.same

pub returns-in_default-clause-count : goal.returns-in_default-clause-count
returns-in_default-clause-count c =
    let none = ap length (few_from string_bytes c.loop-rest.rest.now c.in_default.len_below) in
    omega (arith, none, c.loop-rest.invariant.count)
