use Rattle.lua_scope.proofs.Shadows.{latest-reset_name}
use Rattle.lua_scope.proofs.laws.reset_name.Goals as goal

pub returns : goal.returns
returns c = latest-reset_name c.args.name.now _ c.args.locals.now c.requires
