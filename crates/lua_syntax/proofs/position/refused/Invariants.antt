use Rattle.std.proofs.Common.{◌≡◌, drop}
use Rattle.lua_syntax.specs.Refusals.{refusal}
use Rattle.lua_syntax.proofs.position.refused.Given as goal

-- the positions that are left decide
abbrev pub invariant-loop-position : goal.invariant-loop-position
invariant-loop-position l = refusal (drop l.position-index l.positions) l.token ≡ refusal l.positions l.token
