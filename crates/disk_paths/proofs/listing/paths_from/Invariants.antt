use Rattle.std.proofs.Common.{◌≡◌, map, take, string_bytes}
use Rattle.std.specs.Bool.{nat_eq}
use Rattle.std.specs.List.{filter, starts_with}
use Rattle.disk_paths.proofs.listing.paths_from.Given as goal

abbrev pub invariant-loop-name : goal.invariant-loop-name
invariant-loop-name l = l.paths.items ≡ filter (λ name. starts_with nat_eq name l.prefix) (map string_bytes (take l.name-index l.names))
