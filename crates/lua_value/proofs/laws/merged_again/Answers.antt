use Rattle.lua_value.proofs.Merges.{merged_pairs-again}
use Rattle.lua_value.proofs.laws.merged_again.Goals as goal

pub returns : goal.returns
returns c = merged_pairs-again _ _ c.requires.lower c.requires.upper
