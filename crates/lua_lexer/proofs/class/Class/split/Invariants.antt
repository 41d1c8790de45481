use Rattle.std.proofs.Common.{◌≡◌, ◌-◌, ◌≤◌, ◌++◌, length, take, drop}
use Rattle.lua_lexer.specs.Reading.{holds, run, after_run}
use Rattle.lua_lexer.proofs.class.Class.split.Given as goal

abbrev pub invariant-loop-taken : goal.invariant-loop-taken
invariant-loop-taken l = record {
  in_range : l.taken ≤ length l.bytes;
  front : run (holds l.self) l.bytes ≡ take l.taken l.bytes ++ run (holds l.self) (drop l.taken l.bytes);
  rest : after_run (holds l.self) l.bytes ≡ after_run (holds l.self) (drop l.taken l.bytes);
}

abbrev pub decreases-loop-taken : goal.decreases-loop-taken
decreases-loop-taken l = length l.bytes - l.taken
