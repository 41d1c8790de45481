use Rattle.lua_text.proofs.One.{some_outcome}
use Rattle.lua_text.proofs.laws.some_outcome.Goals as goal

pub returns : goal.returns
returns c = some_outcome c.args.text.now
