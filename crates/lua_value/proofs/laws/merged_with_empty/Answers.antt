use Rattle.lua_value.proofs.Merges.{merged_pairs-nothing}
use Rattle.lua_value.proofs.laws.merged_with_empty.Goals as goal

pub returns-clause-under : goal.returns-clause-under
returns-clause-under c = merged_pairs-nothing _ c.requires
