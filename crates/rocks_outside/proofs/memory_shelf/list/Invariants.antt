use Rattle.std.proofs.Common.{◌≡◌, ◌∷◌, ◌++◌}
use Rattle.std.specs.Prelude.{IsTrue}
use Rattle.std.specs.List.{filter_map, AllByRecursion}
use Rattle.std.specs.BTreeMap.{keys}
use Rattle.rocks_text.specs.Texts.{is_file_path}
use Rattle.rocks_text.specs.Paths.{below}
use Rattle.rocks_outside.proofs.memory_shelf.list.Given as goal

-- the paths so far and those of the keys to come are those of all keys
abbrev pub invariant-loop-path : goal.invariant-loop-path
invariant-loop-path l = record {
  listed : l.paths.items ++ filter_map (below l.folder) l.path-iterator ≡ filter_map (below l.folder) (keys l.files);
  are_paths : AllByRecursion (λ rest. IsTrue (is_file_path (l.folder ++ 47 ∷ rest))) l.paths.items;
}
