use Rattle.std.proofs.Common.{◌≡◌, ◌<◌, ◌^◌, length}
use Rattle.lua_lexer.specs.Reading.{code_at}
use Rattle.lua_lexer.proofs.escape.code.Given as goal

abbrev pub invariant-loop-digit : goal.invariant-loop-digit
invariant-loop-digit l = record {
  in_range : l.value < 2 ^ 31;
  so_far : code_at l.value l.rest ≡ code_at l.first l.bytes;
}

abbrev pub decreases-loop-digit : goal.decreases-loop-digit
decreases-loop-digit l = length l.rest
