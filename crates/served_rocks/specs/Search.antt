-- Where a file is found.
use Rattle.std.specs.Prelude.{ℕ, ◌≡◌, ◌<◌, ◌≤◌, List, [], ◌∷◌, length, if◌then◌else◌, Option, None, Some, option_and_then, slice_get}
use Rattle.std.specs.FinMap.{get, contains_key}
use Rattle.rocks_text.specs.Files.{Files}
use Rattle.served_rocks.specs.declared.search.Found.{Found}
use Rattle.served_rocks.specs.declared.search.Found.TheVariants.{Nowhere, TooLong, At}

-- the earliest server that holds a path
abbrev pub earliest_with : (path : List ℕ) → List Files → Option Files
earliest_with path [] = None
earliest_with path (files ∷ servers) = if contains_key files path then Some files else earliest_with path servers

-- the bytes there
abbrev pub earliest_at : (path : List ℕ) → List Files → Option (List ℕ)
earliest_at path servers = option_and_then (λ files. get files path) (earliest_with path servers)

-- on the earliest server that has it, within a limit in bytes
abbrev pub IsFoundIn : (limit : ℕ) → List Files → (path : List ℕ) → Found → Type 0
IsFoundIn limit servers path Nowhere = earliest_with path servers ≡ None
IsFoundIn limit servers path TooLong =
    (files : Files) × (bytes : List ℕ) × (earliest_with path servers ≡ Some files) × (get files path ≡ Some bytes) × (limit < length bytes)
IsFoundIn limit servers path (At server bytes) =
    (files : Files) × (earliest_with path servers ≡ Some files) × (slice_get servers server ≡ Some files)
    × (get files path ≡ Some bytes) × (length bytes ≤ limit)

-- the server is one, and the bytes are within the limit, whatever a shelf tells
abbrev pub IsFoundWithin : (limit count : ℕ) → Found → Type 0
IsFoundWithin limit count Nowhere = Unit {0}
IsFoundWithin limit count TooLong = Unit {0}
IsFoundWithin limit count (At server bytes) = (server < count) × (length bytes ≤ limit)
