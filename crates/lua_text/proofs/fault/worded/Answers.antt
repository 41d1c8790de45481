use Rattle.std.proofs.Common.{append_assoc, rules}
use Rattle.lua_text.proofs.fault.worded.Goals as goal

pub returns : goal.returns
returns c = simp append_assoc (search rules)
