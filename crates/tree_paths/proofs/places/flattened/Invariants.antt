use Rattle.std.proofs.Common.{◌≡◌, map, take, string_bytes}
use Rattle.tree_paths.specs.Places.{flat_byte}
use Rattle.tree_paths.proofs.places.flattened.Given as goal

abbrev pub invariant-loop-b : goal.invariant-loop-b
invariant-loop-b l = string_bytes l.flat ≡ map flat_byte (take l.b-index l.text)
