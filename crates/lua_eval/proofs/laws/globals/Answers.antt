use Rattle.lua_eval.proofs.Runs.{globals-kept}
use Rattle.lua_eval.proofs.laws.globals.Goals as goal

pub returns : goal.returns
returns c = λ globals integers e. globals-kept c.args.chunk.now globals integers e
