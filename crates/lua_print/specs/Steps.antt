-- What one step of the printing appends.
use Rattle.std.specs.Prelude.{ℕ, Bool, false, ◌==◌, ◌++◌, List, [], ◌∷◌, if◌then◌else◌}
use Rattle.lua_value.specs.declared.key.Key.{Key}
use Rattle.lua_value.specs.declared.key.Key.TheVariants.{Int, Text, Bool as Truth}
use Rattle.lua_value.specs.Pairs.{Datum}
use Rattle.lua_print.specs.Printed.{key_text, value_text}

-- the key is this integer
abbrev pub is_number_key : Key → ℕ → Bool
is_number_key (Int found) number = found == number
is_number_key (Text bytes) number = false
is_number_key (Truth b) number = false

-- the lines of one entry, whose key is a position or is not
abbrev pub entry_text : List ℕ → Bool → Key → Datum → List ℕ
entry_text indent is_position key value =
    indent ++ (if is_position then [] else key_text key) ++ value_text indent value ++ 44 ∷ 10 ∷ []
