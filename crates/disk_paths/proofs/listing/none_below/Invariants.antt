use Rattle.std.proofs.Common.{◌∷◌, ◌↔◌, length, map, string_bytes}
use Rattle.std.specs.List.Sorted.{IsStrictlySortedBy}
use Rattle.rocks_text.specs.Files.{path_cmp}
use Rattle.disk_paths.specs.Listings.{HasNoneBelow}
use Rattle.disk_paths.proofs.listing.none_below.Given as goal

abbrev pub invariant-loop-rest : goal.invariant-loop-rest
invariant-loop-rest l = record {
  question : HasNoneBelow (map string_bytes l.rest) l.folder ↔ HasNoneBelow (map string_bytes l.names) l.folder;
  sorted : IsStrictlySortedBy path_cmp (l.folder ∷ map string_bytes l.rest);
}

abbrev pub decreases-loop-rest : goal.decreases-loop-rest
decreases-loop-rest l = length l.rest
