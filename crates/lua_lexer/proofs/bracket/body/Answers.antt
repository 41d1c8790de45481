use Rattle.lua_lexer.proofs.LongBodies.{found_here, goes_on}
use Rattle.std.proofs.Common.{sym, arith}
use Rattle.lua_lexer.proofs.bracket.body.Goals as goal

pub returns-in-Some : goal.returns-in-Some
returns-in-Some c = found_here c.args.level c.loop-taken.taken c.args.bytes.now c.in-Some.rest.now (sym c.in-Some.ensures) c.loop-taken.invariant.so_far

pub loop-taken-preserved : goal.loop-taken-preserved
loop-taken-preserved c = record {
  in_range = omega arith;
  so_far = goes_on c.args.level c.loop-taken.taken c.args.bytes.now c.loop-taken-test.true (sym (rw c.in_default.is at c.closed.ensures)) c.loop-taken.invariant.so_far;
}
