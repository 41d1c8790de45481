use Rattle.std.proofs.Common.{sym, ap, ◌∙◌}
use Rattle.lua_value.specs.Pairs.{count}
use Rattle.lua_value.proofs.View.{count-pairs_of}
use Rattle.lua_value.proofs.table.Table.len.Goals as goal

pub returns : goal.returns
returns c = c.len.ensures ∙ sym (count-pairs_of _) ∙ ap count c.self.view_is
