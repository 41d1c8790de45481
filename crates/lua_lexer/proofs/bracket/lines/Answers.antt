use Rattle.std.proofs.Common.{sym}
use Rattle.lua_lexer.specs.LongBracket.{lines_of}
use Rattle.lua_lexer.proofs.LineBreaks.{break_goes_on}
use Rattle.lua_lexer.proofs.bracket.lines.Goals as goal

pub loop-first-preserved-then-is_line_break : goal.loop-first-preserved-then-is_line_break
loop-first-preserved-then-is_line_break c =
    rw (c.in_ok-push.ensures.items, c.without_break-rest.ensures)
    (break_goes_on c.loop-first.text.items c.in-Some.first.now c.in-Some.after.now c.loop-first.rest.now (lines_of c.args.bytes.now) c.in-Some.ensures.cases.0 (sym c.if-is_line_break.ensures) c.loop-first.invariant)
