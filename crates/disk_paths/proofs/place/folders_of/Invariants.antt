use Rattle.std.proofs.Common.{◌≡◌, ◌++◌, length, map, string_bytes}
use denote.Text.{Utf8}
use denote.Shadow.{shadow}
use Rattle.disk_paths.specs.Places.{folders_of}
use Rattle.disk_paths.proofs.place.folders_of.Given as goal

abbrev pub invariant-loop-part : goal.invariant-loop-part
invariant-loop-part l = shadow (Utf8 l.rest)
    × (l.folders.items ++ map (λ folder. string_bytes l.at ++ folder) (folders_of l.rest) ≡ folders_of l.path)

abbrev pub decreases-loop-part : goal.decreases-loop-part
decreases-loop-part l = length l.rest
