use Rattle.lua_syntax.proofs.Faulty.{some}
use Rattle.lua_syntax.proofs.laws.chunk_or_fault.Goals as goal

pub returns : goal.returns
returns c = some c.args.tokens.now c.as_slice-items.ensures.promised.ended
