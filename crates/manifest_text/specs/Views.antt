-- Which values are views of a tree. (This project's own.)
use Rattle.std.specs.Prelude.{ℕ, ◌≢◌, ◌≤◌, List, [], length, map, IsTrue}
use Rattle.std.specs.List.{All}
use Rattle.std.specs.List.Sorted.{IsStrictlySortedBy}
use Rattle.std.specs.Str.{IsUtf8}
use Rattle.rocks_text.specs.Files.{path_cmp}
use Rattle.rocks_text.specs.Texts.{is_file_path, is_name}
use Rattle.rocks_version.specs.Keys.{listing_cmp}
use Rattle.rocks_version.specs.Texts.{is_version}
use Rattle.rocks_version.specs.declared.key.RockKey.{RockKey}
use Rattle.rocks_constraint.specs.Wanted.{Wanted}
use Rattle.rocks_constraint.specs.declared.constraint.TheConstants.{MOST_CONSTRAINTS}
use Rattle.manifest_text.specs.declared.view.ManifestView.{ManifestView}

-- ---- what the types promise of every value

abbrev pub IsPath : List ℕ → Type 0
IsPath path = IsTrue (is_file_path path) × IsUtf8 path

abbrev pub IsRockKey : RockKey → Type 0
IsRockKey key = IsTrue (is_name key.name) × IsTrue (is_version key.version)

pub record IsWanted (wanted : Wanted) : Type 0 where
  pub name : IsTrue (is_name wanted.name)
  pub versions : All (λ constraint. IsTrue (is_version constraint.version)) wanted.constraints
  pub few : length wanted.constraints ≤ MOST_CONSTRAINTS

-- ---- views

-- paths in order, each once, with some rocks each
pub record AreProvided (paths : List (List ℕ × List RockKey)) : Type 0 where
  pub in_order : IsStrictlySortedBy path_cmp (map (λ path. path.0) paths)
  pub some : All (λ path. path.1 ≢ []) paths
  pub are_paths : All (λ path. IsPath path.0) paths
  pub are_keys : All (λ path. All IsRockKey path.1) paths

-- Item paths are in order, each once and with some rocks. The rocks are in the order in which they are listed, each once.
pub record IsView (whole : ManifestView) : Type 0 where
  pub commands : AreProvided whole.commands
  pub libs : AreProvided whole.libs
  pub modules : AreProvided whole.modules
  pub rocks : IsStrictlySortedBy listing_cmp (map (λ rock. rock.key) whole.rocks)
  pub are_keys : All (λ rock. IsRockKey rock.key) whole.rocks
  pub are_wanted : All (λ rock. All (λ need. IsWanted need.0 × IsRockKey need.1) rock.dependencies) whole.rocks
