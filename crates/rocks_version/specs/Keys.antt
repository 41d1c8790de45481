-- The order in which rocks are listed (this project's own), and the file name of a rock's rockspec (LuaRocks).
use Rattle.std.specs.Prelude.{ℕ, Bool, ◌&&◌, ◌||◌, List, ◌++◌, codes}
use Rattle.std.specs.declared.cmp.Ordering.{Ordering}
use Rattle.std.specs.Ordering.{is_eq, is_gt, is_lt, nat_cmp, on, then_cmp, flip_args}
use Rattle.std.specs.Cmp.Lexicographic.{slice_cmp}
use Rattle.rocks_version.specs.Orders.{version_rank}
use Rattle.rocks_version.specs.declared.key.RockKey.{RockKey}

-- how two rocks are listed: names rise by their bytes, and the versions of one name fall by their rank
unfoldable pub listing_cmp : RockKey → RockKey → Ordering
listing_cmp = then_cmp (on (λ key. key.name) (slice_cmp nat_cmp)) (flip_args (on (λ key. key.version) version_rank))

-- the left one is listed first
unfoldable pub is_before : RockKey → RockKey → Bool
is_before left right =
    is_lt (slice_cmp nat_cmp left.name right.name)
    || (is_eq (slice_cmp nat_cmp left.name right.name) && is_gt (version_rank left.version right.version))

-- NAME-VERSION.rockspec
abbrev pub rockspec_name : (name version : List ℕ) → List ℕ
rockspec_name name version = name ++ (codes "-" ++ (version ++ codes ".rockspec"))
