use Rattle.lua_scope.proofs.Unset.{IsOrdered-with_global}
use Rattle.lua_scope.proofs.laws.global_order.Goals as goal

pub returns : goal.returns
returns c = IsOrdered-with_global c.args.name.now _ c.args.globals.now c.requires.value c.requires.ordered
