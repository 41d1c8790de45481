use Rattle.lua_value.specs.declared.key.Key.TheVariants.{Text}
use Rattle.lua_scope.proofs.Unset.{value_at-without_key}
use Rattle.lua_scope.proofs.laws.global_nil.Goals as goal

pub returns : goal.returns
returns c = value_at-without_key (Text c.args.name.now) c.args.globals.now c.requires
