use Rattle.std.proofs.Common.{◌≡◌, ◌-◌, ◌≤◌, length, take, drop}
use Rattle.lua_lexer.specs.Reading.{close_at}
use Rattle.lua_lexer.proofs.LongBodies.{behind}
use Rattle.lua_lexer.proofs.bracket.body.Given as goal

abbrev pub invariant-loop-taken : goal.invariant-loop-taken
invariant-loop-taken l = record {
  in_range : l.taken ≤ length l.bytes;
  so_far : close_at l.level l.bytes ≡ behind (take l.taken l.bytes) (close_at l.level (drop l.taken l.bytes));
}

abbrev pub decreases-loop-taken : goal.decreases-loop-taken
decreases-loop-taken l = length l.bytes - l.taken
