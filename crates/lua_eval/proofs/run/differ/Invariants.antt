use Rattle.std.proofs.Common.{◌≡◌, List, ℕ, [], drop}
use Rattle.std.specs.Prelude.{is_some}
use Rattle.std.specs.List.{list_any}
use Rattle.std.specs.Str.{bytes_eq}
use Rattle.lua_value.specs.declared.key.Key.TheVariants.{Text}
use Rattle.lua_value.specs.Ordered.{IsOrdered}
use Rattle.lua_value.specs.Pairs.{value_at}
use Rattle.lua_eval.specs.Names.{twice}
use Rattle.lua_eval.proofs.run.differ.Given as goal

abbrev pub invariant-loop-named : goal.invariant-loop-named
invariant-loop-named l = record {
  seen : (before : List (List ℕ)) × ((name : List ℕ) → list_any (bytes_eq name) before ≡ is_some (value_at (Text name) l.seen))
      × (twice before (drop l.named-index l.names) ≡ twice [] l.names);
  ordered : IsOrdered l.seen;
}
