-- Paths that no two files can share. (This project's own.)
use Rattle.std.specs.Prelude.{◌≡◌, ◌≢◌, ◌⊎◌, ℕ, List, Some, slice_get}
use Rattle.std.specs.declared.cmp.Ordering.TheVariants.{Greater}
use Rattle.rocks_text.specs.Files.{path_cmp}
use Rattle.rocks_text.specs.Paths.{IsFolderOf}
use Rattle.twofold_paths.specs.declared.place.Place.{Place}

-- a place has the path, and another one of its sort has it too or stands at a folder of it
pub record IsTwofoldPath (places : List Place) (path : List ℕ) : Type 0 where
  pub first : ℕ
  pub second : ℕ
  pub upper : Place
  pub lower : Place
  pub apart : first ≢ second
  pub is_upper : slice_get places first ≡ Some upper
  pub is_lower : slice_get places second ≡ Some lower
  pub one_sort : upper.sort ≡ lower.sort
  pub within : (upper.path ≡ lower.path) ⊎ IsFolderOf upper.path lower.path
  pub at : path ≡ lower.path

-- the least such path
pub record IsLeastTwofoldPath (places : List Place) (path : List ℕ) : Type 0 where
  pub is : IsTwofoldPath places path
  pub least : (other : List ℕ) → IsTwofoldPath places other → path_cmp path other ≢ Greater
