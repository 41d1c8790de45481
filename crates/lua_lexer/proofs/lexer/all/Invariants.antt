use Rattle.std.proofs.Common.{◌≡◌, ◌≤◌, ◌-◌, length}
use Rattle.lua_lexer.specs.Reading.{tokens_at}
use Rattle.lua_lexer.proofs.TokenLoop.{with_tokens}
use Rattle.lua_lexer.proofs.lexer.all.Given as goal

abbrev pub invariant-loop-rest : goal.invariant-loop-rest
invariant-loop-rest l = record {
  in_range : length l.rest ≤ length l.text;
  so_far : with_tokens l.tokens.items (length l.text - length l.rest) l.rest ≡ tokens_at l.text;
}

abbrev pub decreases-loop-rest : goal.decreases-loop-rest
decreases-loop-rest l = length l.rest
