use Rattle.lua_text.proofs.One.{own_fault}
use Rattle.lua_text.proofs.laws.own_faults.Goals as goal

pub returns : goal.returns
returns c = own_fault c.args.text.now
