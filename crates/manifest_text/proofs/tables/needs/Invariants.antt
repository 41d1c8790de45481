use Rattle.std.proofs.Common.{◌≡◌, take}
use Rattle.lua_value.specs.Ordered.{IsOrdered}
use Rattle.manifest_text.specs.Text.{needs_pairs}
use Rattle.manifest_text.proofs.tables.needs.Given as goal

abbrev pub invariant-loop-at : goal.invariant-loop-at
invariant-loop-at l = (l.table ≡ needs_pairs (take l.at l.needed)) × IsOrdered l.table
