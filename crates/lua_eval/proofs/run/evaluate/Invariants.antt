use Rattle.std.proofs.Common.{◌≡◌, ◌≤◌, drop}
use Rattle.std.specs.List.{AllByRecursion}
use Rattle.lua_eval.specs.declared.weight.TheConstants.{HEAVIEST}
use Rattle.lua_eval.specs.Laws.{IsServedStatement}
use Rattle.lua_eval.specs.Running.{state_of}
use Rattle.lua_eval.specs.Values.{run, start}
use Rattle.lua_eval.proofs.run.evaluate.Given as goal

abbrev pub invariant-loop-statement : goal.invariant-loop-statement
invariant-loop-statement l = record {
  ran : run (drop l.statement-index l.statement-items) (state_of l.scope l.sum) ≡ run l.chunk.statements start;
  integers : AllByRecursion IsServedStatement (drop l.statement-index l.statement-items);
  low : l.sum ≤ HEAVIEST;
}
