-- Which views stand in order. No public clause cites this.
use Rattle.std.specs.Prelude.{ℕ, ◌≢◌, List, [], map}
use Rattle.std.specs.List.{All}
use Rattle.std.specs.List.Sorted.{IsStrictlySortedBy}
use Rattle.rocks_text.specs.Files.{path_cmp}
use Rattle.rocks_version.specs.Keys.{listing_cmp}
use Rattle.rocks_version.specs.declared.key.RockKey.{RockKey}
use Rattle.manifest_text.specs.declared.view.ManifestView.{ManifestView}

abbrev pub AreInOrder : List (List ℕ × List RockKey) → Type 0
AreInOrder paths = IsStrictlySortedBy path_cmp (map (λ path. path.0) paths) × All (λ path. path.1 ≢ []) paths

abbrev pub IsInOrder : ManifestView → Type 0
IsInOrder whole =
    AreInOrder whole.commands × AreInOrder whole.libs × AreInOrder whole.modules
    × IsStrictlySortedBy listing_cmp (map (λ rock. rock.key) whole.rocks)
