use Rattle.lua_scope.proofs.Shadows.{latest-push_name}
use Rattle.lua_scope.proofs.laws.declared.Goals as goal

pub returns : goal.returns
returns c = latest-push_name c.args.name.now _ c.args.locals.now
