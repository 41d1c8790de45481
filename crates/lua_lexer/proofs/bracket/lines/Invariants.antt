use Rattle.std.proofs.Common.{◌≡◌, ◌++◌, length}
use Rattle.lua_lexer.specs.LongBracket.{lines_of}
use Rattle.lua_lexer.proofs.bracket.lines.Given as goal

abbrev pub invariant-loop-first : goal.invariant-loop-first
invariant-loop-first l = l.text.items ++ lines_of l.rest ≡ lines_of l.bytes

abbrev pub decreases-loop-first : goal.decreases-loop-first
decreases-loop-first l = length l.rest
