-- How such a path is found among places in order.
use Rattle.std.specs.Prelude.{◌≡◌, ◌≢◌, ◌⊎◌, ◌<◌, ◌-◌, ℕ, List, slice_index_or, Option, None, Some}
use Rattle.std.specs.List.{Any}
use Rattle.std.specs.Ordering.{nat_cmp, on, then_cmp}
use Rattle.std.specs.declared.cmp.Ordering.{Ordering}
use Rattle.std.specs.declared.cmp.Ordering.TheVariants.{Less, Greater}
use Rattle.rocks_text.specs.Files.{path_cmp}
use Rattle.rocks_text.specs.Paths.{IsFolderOf}
use Rattle.twofold_paths.specs.declared.place.Place.{Place}

-- by sort, and those of one sort by the bytes of their paths
abbrev pub place_cmp : Place → Place → Ordering
place_cmp = then_cmp (on (λ place. place.sort) nat_cmp) (on (λ place. place.path) path_cmp)

-- the place before this one is equal
abbrev pub IsAgain : List Place → ℕ → Type 0
IsAgain places at = (0 < at) × ((d : Place) → slice_index_or places (at - 1) d ≡ slice_index_or places at d)

-- one of the places of the sort stands at a folder of the path
abbrev pub IsBelowOne : List Place → Place → Type 0
IsBelowOne places place = Any (λ upper. (upper.sort ≡ place.sort) × IsFolderOf upper.path place.path) places

-- a place is equal to the one before it or below another
abbrev pub IsTaken : List Place → ℕ → Type 0
IsTaken places at = IsAgain places at ⊎ ((d : Place) → IsBelowOne places (slice_index_or places at d))

-- the path goes before this one, if there is one
abbrev pub GoesFirst : List ℕ → Option (List ℕ) → Type 0
GoesFirst path None = Unit {0}
GoesFirst path (Some least) = path_cmp path least ≡ Less

-- the least path of the taken ones among the first so many places
abbrev pub IsLeastTaken : List Place → ℕ → Option (List ℕ) → Type 0
IsLeastTaken places count None = (at : ℕ) → at < count → ¬ IsTaken places at
IsLeastTaken places count (Some path) =
    ((at : ℕ) × (at < count) × IsTaken places at × ((d : Place) → (slice_index_or places at d).path ≡ path))
    × ((at : ℕ) (d : Place) → at < count → IsTaken places at → path_cmp path (slice_index_or places at d).path ≢ Greater)
