-- The texts that a concatenation joins (Lua 5.4 manual, section 3.4.6, as far as served).
use Rattle.std.specs.Prelude.{◌≡◌, ℕ, Bool, List, [], ◌∷◌, ◌++◌, unwrap_or, is_some, IsTrue, Ok}
use Rattle.lua_value.specs.Pairs.{Datum, nil, text_value}
use Rattle.lua_eval.specs.Joins.{text_of, join}

-- the first value, or nil where there is none
abbrev pub first_of : List Datum → Datum
first_of [] = nil
first_of (value ∷ values) = value

-- whether a value can be joined
abbrev pub has_text : Datum → Bool
has_text value = is_some (text_of value)

-- the text that is joined, and none of a value that can't be
abbrev pub own_text : Datum → List ℕ
own_text value = unwrap_or (text_of value) []

-- the texts of all, one behind the other
abbrev pub all_texts : List Datum → List ℕ
all_texts [] = []
all_texts (value ∷ values) = own_text value ++ all_texts values

abbrev pub BeginsWithText : List Datum → Type 0
BeginsWithText [] = Unit {0}
BeginsWithText (value ∷ values) = IsTrue (has_text value)

-- what the operators join is the texts of all; without an operator it is not known yet
abbrev pub IsJoined : List Datum → List ℕ → Type 0
IsJoined values [] = Unit {0}
IsJoined values (place ∷ places) =
    (join values (place ∷ places) ≡ Ok (text_value (all_texts values))) × BeginsWithText values
