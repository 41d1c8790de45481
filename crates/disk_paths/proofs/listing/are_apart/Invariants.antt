use Rattle.std.proofs.Common.{◌↔◌, length, map, string_bytes}
use Rattle.std.specs.List.Sorted.{IsStrictlySortedBy}
use Rattle.rocks_text.specs.Files.{path_cmp}
use Rattle.disk_paths.proofs.Apart.{AreApart}
use Rattle.disk_paths.proofs.listing.are_apart.Given as goal

abbrev pub invariant-loop-rest : goal.invariant-loop-rest
invariant-loop-rest l = record {
  question : AreApart (map string_bytes l.rest) ↔ AreApart (map string_bytes l.names);
  sorted : IsStrictlySortedBy path_cmp (map string_bytes l.rest);
}

abbrev pub decreases-loop-rest : goal.decreases-loop-rest
decreases-loop-rest l = length l.rest
