use Rattle.lua_lexer.proofs.Whole.{one_list}
use Rattle.lua_lexer.proofs.laws.one_list.Goals as goal

pub returns : goal.returns
returns c = one_list
