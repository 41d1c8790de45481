use Rattle.std.proofs.Common.{◌≡◌, take}
use Rattle.lua_value.specs.Ordered.{IsOrdered}
use Rattle.manifest_text.specs.Text.{provided_pairs}
use Rattle.manifest_text.proofs.tables.provided.Given as goal

abbrev pub invariant-loop-path : goal.invariant-loop-path
invariant-loop-path l = (l.table ≡ provided_pairs (take l.path-index l.paths)) × IsOrdered l.table
