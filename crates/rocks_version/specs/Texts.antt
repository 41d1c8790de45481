-- Which texts are versions, a text being the list of its bytes. (LuaRocks: a version is a row of components, and a
-- revision behind the last dash. The bytes and limits are this project's own.)
use Rattle.std.specs.Prelude.{ℕ, Bool, true, ◌==◌, ◌&&◌, ◌||◌, nat_le, List, [], ◌∷◌, length, slice_index, if◌then◌else◌, Option, Some, None}
use Rattle.std.specs.List.{list_all, prefix_len, before_last, after_last}
use Rattle.std.specs.Char.{is_ascii_alphanumeric, is_ascii_digit}
use Rattle.std.specs.Str.Parse.{digits_value}
use Rattle.rocks_version.specs.declared.text.TheConstants.{LONGEST, MOST_DIGITS}

abbrev pub is_dash : ℕ → Bool
is_dash b = b == 45

-- a dash, a dot or `_`
abbrev pub is_separator : ℕ → Bool
is_separator b = b == 45 || b == 46 || b == 95

abbrev pub is_version_byte : ℕ → Bool
is_version_byte b = is_ascii_alphanumeric b || is_separator b

-- one digit or more
abbrev pub is_numeral : List ℕ → Bool
is_numeral digits = nat_le 1 (length digits) && list_all is_ascii_digit digits

-- something stands before the last dash, and behind it one digit or more up to the end
unfoldable pub has_revision : List ℕ → Bool
has_revision text = nat_le 1 (length (before_last is_dash text)) && is_numeral (after_last is_dash text)

-- the text without its revision and the dash before it
unfoldable pub body : List ℕ → List ℕ
body text = if has_revision text then before_last is_dash text else text

-- the number behind the dash
unfoldable pub revision : List ℕ → Option ℕ
revision text = if has_revision text then Some (digits_value 10 (after_last is_dash text)) else None

-- from no place on do more than 18 digits stand in a row
abbrev pub has_short_numbers : List ℕ → Bool
has_short_numbers [] = true
has_short_numbers (b ∷ bs) = nat_le (prefix_len is_ascii_digit (b ∷ bs)) MOST_DIGITS && has_short_numbers bs

-- at most 40 letters, digits and separators, in which the body begins with a letter or digit
unfoldable pub has_form : List ℕ → Bool
has_form text =
    list_all is_version_byte text && nat_le (length text) LONGEST && is_ascii_alphanumeric (slice_index (body text) 0)

-- a text of that form in which each number, the revision too, has at most 18 digits
unfoldable pub is_version : List ℕ → Bool
is_version text = has_form text && has_short_numbers text

-- a byte of the body of a rock's version: a letter, a digit or a dot
abbrev pub is_rock_byte : ℕ → Bool
is_rock_byte b = is_ascii_alphanumeric b || b == 46

-- a version of a rock: letters, digits and dots, then a dash and a revision
unfoldable pub is_rock_version : List ℕ → Bool
is_rock_version text = is_version text && has_revision text && list_all is_rock_byte (body text)
