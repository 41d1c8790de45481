use Rattle.std.proofs.Common.{◌≡◌, ◌++◌}
use Rattle.lua_print.specs.Printed.{globals_text}
use Rattle.lua_value.proofs.Left.{left}
use Rattle.lua_print.proofs.printing.print.Given as goal

abbrev pub invariant-loop-at : goal.invariant-loop-at
invariant-loop-at l = l.out.items ++ globals_text (left l.at l.table) ≡ globals_text l.table
