use Rattle.lua_text.proofs.One.{one_outcome}
use Rattle.lua_text.proofs.laws.one_outcome.Goals as goal

pub returns : goal.returns
returns c = λ one other is another. one_outcome c.args.text.now one other is another
