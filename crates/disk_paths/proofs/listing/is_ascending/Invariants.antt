use Rattle.std.proofs.Common.{◌↔◌, length, map, string_bytes}
use Rattle.rocks_outside.specs.Device.{IsAscending}
use Rattle.disk_paths.proofs.listing.is_ascending.Given as goal

abbrev pub invariant-loop-rest : goal.invariant-loop-rest
invariant-loop-rest l = IsAscending (map string_bytes l.rest) ↔ IsAscending (map string_bytes l.names)

abbrev pub decreases-loop-rest : goal.decreases-loop-rest
decreases-loop-rest l = length l.rest
