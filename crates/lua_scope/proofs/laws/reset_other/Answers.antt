use Rattle.lua_scope.proofs.Shadows.{latest-reset_other}
use Rattle.lua_scope.proofs.laws.reset_other.Goals as goal

pub returns : goal.returns
returns c = latest-reset_other c.args.other.now c.args.name.now _ c.args.locals.now c.requires
