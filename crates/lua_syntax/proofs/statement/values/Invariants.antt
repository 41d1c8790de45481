use Rattle.std.proofs.Common.{length}
use Rattle.lua_lexer.specs.declared.vocabulary.Symbol.TheVariants as symbols
use Rattle.lua_syntax.specs.Brackets.{Keeps}
use Rattle.lua_syntax.specs.Grammar.{IsValues}
use Rattle.lua_syntax.specs.Reading.{NotAhead, Takes}
use Rattle.lua_syntax.proofs.statement.values.Given as goal

abbrev pub invariant-loop-after : goal.invariant-loop-after
invariant-loop-after l = Takes IsValues l.tokens l.values l.ending l.rest × Keeps 0 l.tokens l.rest × NotAhead symbols.Concat l.rest

abbrev pub decreases-loop-after : goal.decreases-loop-after
decreases-loop-after l = length l.rest
