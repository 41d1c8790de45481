-- What has changed and wasn't made durable yet.
use Rattle.std.specs.Prelude.{ℕ, ◌≡◌, ◌↔◌, List, ◌++◌, map, reverse, Contains}
use Rattle.rocks_outside.specs.Device.{IsAscending}
use Rattle.disk_paths.specs.Places.{whole_of}

-- the same paths, however often and in whatever order
abbrev pub AreSamePaths : (paths others : List (List ℕ)) → Type 0
AreSamePaths paths others = (path : List ℕ) → Contains paths path ↔ Contains others path

-- Each path once, the greatest first. A folder's path begins that of what it holds, so it is less and comes after.
abbrev pub IsDescending : (paths : List (List ℕ)) → Type 0
IsDescending paths = IsAscending (reverse paths)

-- what was noted is noted still, and perhaps more
abbrev pub AreKept : (paths now : List (List ℕ)) → Type 0
AreKept paths now = (more : List (List ℕ)) × (now ≡ paths ++ more)

-- each of the noted paths below a root was made durable once, folders after what they hold
abbrev pub AreSynced : (root : List ℕ) → (noted synced : List (List ℕ)) → Type 0
AreSynced root noted synced =
    (paths : List (List ℕ)) × AreSamePaths noted paths × IsDescending paths × (synced ≡ map (whole_of root) paths)
