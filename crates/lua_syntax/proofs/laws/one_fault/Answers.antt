use Rattle.lua_syntax.proofs.Faulty.{one_fault}
use Rattle.lua_syntax.proofs.laws.one_fault.Goals as goal

pub returns : goal.returns
returns c = λ one other is another. one_fault c.args.tokens.now one other is another
