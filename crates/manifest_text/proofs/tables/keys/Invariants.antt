use Rattle.std.proofs.Common.{◌≡◌, take}
use Rattle.lua_value.specs.Ordered.{IsOrdered}
use Rattle.manifest_text.specs.Text.{keys_pairs}
use Rattle.manifest_text.proofs.tables.keys.Given as goal

abbrev pub invariant-loop-at : goal.invariant-loop-at
invariant-loop-at l = (l.table ≡ keys_pairs (take l.at l.rocks)) × IsOrdered l.table
