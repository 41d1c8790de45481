use Rattle.lua_value.proofs.Merges.{value_at-merged_pairs}
use Rattle.lua_value.proofs.laws.merged_key.Goals as goal

pub returns : goal.returns
returns c = value_at-merged_pairs c.args.key.now c.args.lower.now c.args.upper.now
