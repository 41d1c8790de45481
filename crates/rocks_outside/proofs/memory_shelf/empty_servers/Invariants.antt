use Rattle.std.proofs.Common.{◌≡◌}
use Rattle.std.specs.Prelude.{replicate}
use Rattle.std.specs.FinMap.{empty}
use Rattle.rocks_outside.proofs.memory_shelf.empty_servers.Given as goal

abbrev pub invariant-loop : goal.invariant-loop
invariant-loop l = l.servers.items ≡ replicate l.counter empty
