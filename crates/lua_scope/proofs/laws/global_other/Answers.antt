use Rattle.lua_scope.proofs.Unset.{value_at-with_global_other}
use Rattle.lua_scope.proofs.laws.global_other.Goals as goal

pub returns : goal.returns
returns c = value_at-with_global_other c.args.other.now c.args.name.now _ c.args.globals.now c.requires
