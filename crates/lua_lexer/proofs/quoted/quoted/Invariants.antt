use Rattle.std.proofs.Common.{◌≡◌, length}
use Rattle.lua_lexer.specs.Reading.{pieces_at, quoted_at}
use Rattle.lua_lexer.proofs.QuotedLoop.{with_text}
use Rattle.lua_lexer.proofs.quoted.quoted.Given as goal

abbrev pub invariant-loop-text : goal.invariant-loop-text
invariant-loop-text l = with_text l.text.items (pieces_at l.quote (length l.bytes) l.rest) ≡ quoted_at l.bytes

abbrev pub decreases-loop-text : goal.decreases-loop-text
decreases-loop-text l = length l.rest
