use Rattle.lua_syntax.proofs.Faulty.{not_both}
use Rattle.lua_syntax.proofs.laws.chunk_without_fault.Goals as goal

pub returns : goal.returns
returns c = λ chunk fault derives is. not_both c.args.tokens.now chunk fault derives is
