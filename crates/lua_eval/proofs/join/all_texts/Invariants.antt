use Rattle.std.proofs.Common.{◌≡◌, ◌++◌, drop, map}
use Rattle.lua_value.specs.View.{datum}
use Rattle.lua_eval.specs.Texts.{all_texts}
use Rattle.lua_eval.proofs.join.all_texts.Given as goal

abbrev pub invariant-loop-value : goal.invariant-loop-value
invariant-loop-value l =
    l.made.items ++ all_texts (map datum (drop l.value-index l.values)) ≡ all_texts (map datum l.values)
