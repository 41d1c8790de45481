use Rattle.std.proofs.Common.{length}
use Rattle.lua_syntax.proofs.Statements.{NamesSo}
use Rattle.lua_syntax.proofs.statement.names.Given as goal

abbrev pub invariant-loop-after : goal.invariant-loop-after
invariant-loop-after l = NamesSo l.tokens l.names l.rest

abbrev pub decreases-loop-after : goal.decreases-loop-after
decreases-loop-after l = length l.rest
