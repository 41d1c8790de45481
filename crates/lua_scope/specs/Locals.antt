-- The locals of a chunk as the list of their names and values, the latest last (Lua 5.4 manual, sections 3.3.3, 3.3.7 and 3.5, as far as served).
use Rattle.std.specs.Prelude.{ℕ, List, [], ◌∷◌, Option, Some, None, is_some, if◌then◌else◌}
use Rattle.std.specs.Option.{option_or}
use Rattle.std.specs.Str.{bytes_eq}
use Rattle.lua_value.specs.Pairs.{Datum}

-- the value of the latest local of that name
abbrev pub latest : List ℕ → List (List ℕ × Datum) → Option Datum
latest name [] = None
latest name (local ∷ rest) =
    option_or (latest name rest) (if bytes_eq local.0 name then Some local.1 else None)

-- the locals, the latest of that name having another value
abbrev pub reset : List ℕ → Datum → List (List ℕ × Datum) → List (List ℕ × Datum)
reset name value [] = []
reset name value (local ∷ rest) =
    if is_some (latest name rest) then local ∷ reset name value rest
    else if bytes_eq local.0 name then (local.0, value) ∷ rest
    else local ∷ rest
