use Rattle.lua_eval.proofs.Runs.{value_of-append}
use Rattle.lua_eval.proofs.laws.parts.Goals as goal

pub returns : goal.returns
returns c = λ first second e. value_of-append c.args.chunk.now first second e
