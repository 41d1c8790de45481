use Rattle.std.proofs.Common.{◌≡◌, take}
use Rattle.lua_value.specs.Ordered.{IsOrdered}
use Rattle.manifest_text.specs.Text.{dependencies_of}
use Rattle.manifest_text.proofs.tables.dependencies.Given as goal

abbrev pub invariant-loop-rock : goal.invariant-loop-rock
invariant-loop-rock l = (l.table ≡ dependencies_of (take l.rock-index l.rocks)) × IsOrdered l.table
