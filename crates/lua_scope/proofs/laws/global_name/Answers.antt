use Rattle.lua_scope.proofs.Unset.{value_at-with_global_name}
use Rattle.lua_scope.proofs.laws.global_name.Goals as goal

pub returns : goal.returns
returns c = value_at-with_global_name c.args.name.now _ c.args.globals.now c.requires
