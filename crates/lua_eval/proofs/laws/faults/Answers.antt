use Rattle.lua_eval.proofs.Faults.{definite-chunk}
use Rattle.lua_eval.proofs.laws.faults.Goals as goal

pub returns : goal.returns
returns c = definite-chunk c.args.chunk.now
