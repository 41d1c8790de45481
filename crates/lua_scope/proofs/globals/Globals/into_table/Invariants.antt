use Rattle.lua_scope.proofs.Taken.{IsMoved}
use Rattle.lua_scope.proofs.globals.Globals.into_table.Given as goal

abbrev pub invariant-loop-name : goal.invariant-loop-name
invariant-loop-name l = IsMoved l.fn.self l.table l.name-iterator
