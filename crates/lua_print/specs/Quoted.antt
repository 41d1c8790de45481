-- How a text is printed between quotes.
use Rattle.std.specs.Prelude.{ℕ, ◌+◌, ◌/◌, ◌%◌, ◌==◌, ◌||◌, ◌++◌, List, [], ◌∷◌, if◌then◌else◌, nat_lt, flat_map}

-- a byte as three decimal digits
abbrev pub three_digits : ℕ → List ℕ
three_digits byte = (48 + byte / 100) ∷ (48 + byte / 10 % 10) ∷ (48 + byte % 10) ∷ []

-- a byte within quotes: a quote and a backslash follow a backslash, and so does an `n` for a line feed and three digits
-- for any other byte below 32 and for 127 (the escapes of the Lua 5.4 manual, section 3.1; which of them is this project's own)
abbrev pub escaped : ℕ → List ℕ
escaped byte =
    if byte == 34 || byte == 92
    then 92 ∷ byte ∷ []
    else (if byte == 10 then 92 ∷ 110 ∷ [] else (if nat_lt byte 32 || byte == 127 then 92 ∷ three_digits byte else byte ∷ []))

-- a text between quotes
abbrev pub quoted : List ℕ → List ℕ
quoted text = 34 ∷ (flat_map escaped text ++ 34 ∷ [])
