use Rattle.lua_eval.proofs.Keyed.{globals-keyed}
use Rattle.lua_eval.proofs.laws.keys.Goals as goal

pub returns : goal.returns
returns c = λ globals e. globals-keyed c.args.chunk.now globals e
