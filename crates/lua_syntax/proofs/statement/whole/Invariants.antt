use Rattle.std.proofs.Common.{length}
use Rattle.lua_syntax.proofs.Statements.{StatementsSo}
use Rattle.lua_syntax.proofs.StatementStops.{RunsSo}
use Rattle.lua_syntax.proofs.statement.whole.Given as goal

abbrev pub invariant-loop-statements : goal.invariant-loop-statements
invariant-loop-statements l = StatementsSo l.tokens l.statements l.rest × RunsSo l.tokens l.before l.statements l.rest

abbrev pub decreases-loop-statements : goal.decreases-loop-statements
decreases-loop-statements l = length l.rest
