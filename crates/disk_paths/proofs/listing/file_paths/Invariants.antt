use Rattle.std.proofs.Common.{◌≡◌, ◌++◌, ◌∷◌, map, take, string_bytes, IsTrue}
use Rattle.std.specs.List.{AllByRecursion}
use Rattle.rocks_text.specs.Texts.{is_file_path}
use Rattle.disk_paths.proofs.listing.file_paths.Given as goal

abbrev pub invariant-loop-name : goal.invariant-loop-name
invariant-loop-name l = record {
  same : l.paths.items ≡ map string_bytes (take l.name-index l.names);
  whole : AllByRecursion (λ path. IsTrue (is_file_path (l.folder ++ 47 ∷ path))) l.paths.items;
}
