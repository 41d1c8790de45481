use Rattle.lua_scope.proofs.Shadows.{latest-push_other}
use Rattle.lua_scope.proofs.laws.declared_other.Goals as goal

pub returns : goal.returns
returns c = latest-push_other c.args.other.now c.args.name.now _ c.args.locals.now c.requires
