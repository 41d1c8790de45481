use Rattle.lua_syntax.proofs.TakenChunks.{one_tree}
use Rattle.lua_syntax.proofs.laws.one_chunk.Goals as goal

pub returns : goal.returns
returns c = λ one other d e. one_tree c.args.tokens.now one other d.0 e.0
