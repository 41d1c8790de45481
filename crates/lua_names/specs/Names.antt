-- Names (Lua 5.4 manual, section 3.1).
use Rattle.std.specs.Prelude.{ℕ, Bool, false, ◌&&◌, ◌||◌, not, List, [], ◌∷◌, nat_le, ◌==◌}
use Rattle.std.specs.List.{list_all}
use Rattle.lua_names.specs.Keywords.{is_keyword}

abbrev pub is_digit : ℕ → Bool
is_digit b = nat_le 48 b && nat_le b 57

-- letters and `_`
abbrev pub is_name_start : ℕ → Bool
is_name_start b = ((nat_le 65 b && nat_le b 90) || (nat_le 97 b && nat_le b 122)) || b == 95

-- letters, digits and `_`
abbrev pub is_name_byte : ℕ → Bool
is_name_byte b = is_name_start b || is_digit b

-- letters, digits and `_`, not beginning with a digit
abbrev pub is_word : List ℕ → Bool
is_word [] = false
is_word (b ∷ bs) = is_name_start b && list_all is_name_byte bs

-- a word that is no keyword
abbrev pub is_name : List ℕ → Bool
is_name bytes = is_word bytes && not (is_keyword bytes)
