use Rattle.std.proofs.Common.{◌≡◌, take}
use Rattle.lua_value.specs.Ordered.{IsOrdered}
use Rattle.manifest_text.specs.Text.{repository_of}
use Rattle.manifest_text.proofs.tables.repository.Given as goal

abbrev pub invariant-loop-rock : goal.invariant-loop-rock
invariant-loop-rock l = (l.table ≡ repository_of (take l.rock-index l.rocks)) × IsOrdered l.table
