use Rattle.std.proofs.Common.{◌≡◌, map, take}
use Rattle.build_plan.specs.Entries.{bytes_of}
use Rattle.lua_value.specs.Pairs.{listed}
use Rattle.rockspec.proofs.fields.texts_of.Given as goal

abbrev pub invariant-loop-at : goal.invariant-loop-at
invariant-loop-at l = map (λ text. text.now) l.texts.items ≡ map (λ pair. bytes_of pair.1) (take l.at (listed l.list))
