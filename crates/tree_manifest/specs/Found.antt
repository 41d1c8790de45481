-- What the types promise of what is read, and how it is gathered. No public clause cites this.
use Rattle.std.specs.Prelude.{ℕ, List}
use Rattle.std.specs.List.{All}
use Rattle.std.specs.List.Sorted.{IsSorted}
use Rattle.rocks_version.specs.Keys.{listing_cmp}
use Rattle.rocks_version.specs.declared.key.RockKey.{RockKey}
use Rattle.manifest_text.specs.Views.{IsPath, IsRockKey, IsWanted}
use Rattle.manifest_text.specs.declared.view.ManifestView.{ManifestView}
use Rattle.manifest_text.specs.declared.view.ViewRock.{ViewRock}
use Rattle.tree_manifest.specs.declared.groups.Depths.{Depths}

-- the lines of paths and of the rocks that have them
abbrev pub path_depths : Depths
path_depths = record { head = 3; text = 6 }

-- the lines of versions and of what they need
abbrev pub rock_depths : Depths
rock_depths = record { head = 6; text = 12 }

-- paths, each with rocks
pub record ArePaths (paths : List (List ℕ × List RockKey)) : Type 0 where
  pub are_paths : All (λ path. IsPath path.0) paths
  pub are_keys : All (λ path. All IsRockKey path.1) paths

pub record AreRocks (rocks : List ViewRock) : Type 0 where
  pub are_keys : All (λ rock. IsRockKey rock.key) rocks
  pub are_wanted : All (λ rock. All (λ need. IsWanted need.0 × IsRockKey need.1) rock.dependencies) rocks

-- no rock is listed before an earlier one
abbrev pub AreListed : List ViewRock → Type 0
AreListed rocks = IsSorted (λ left right. listing_cmp left.key right.key) rocks

pub record IsMade (whole : ManifestView) : Type 0 where
  pub commands : ArePaths whole.commands
  pub libs : ArePaths whole.libs
  pub modules : ArePaths whole.modules
  pub rocks : AreRocks whole.rocks
