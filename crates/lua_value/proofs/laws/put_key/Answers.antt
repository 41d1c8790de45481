use Rattle.lua_value.proofs.Puts.{value_at-put_key}
use Rattle.lua_value.proofs.laws.put_key.Goals as goal

pub returns : goal.returns
returns c = value_at-put_key c.args.key.now _ c.args.table.now
