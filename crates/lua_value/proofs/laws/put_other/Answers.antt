use Rattle.lua_value.proofs.Puts.{value_at-put_other}
use Rattle.lua_value.proofs.laws.put_other.Goals as goal

pub returns : goal.returns
returns c = value_at-put_other c.args.other.now c.args.key.now _ c.args.table.now c.requires
