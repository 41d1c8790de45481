use Rattle.lua_lexer.proofs.Whole.{rise, stand}
use Rattle.lua_lexer.proofs.laws.places.Goals as goal

pub returns-clause-rise : goal.returns-clause-rise
returns-clause-rise c = rise

pub returns-clause-stand : goal.returns-clause-stand
returns-clause-stand c = stand
