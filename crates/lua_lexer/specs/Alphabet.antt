-- The bytes of a Lua text and what runs of them are called (Lua 5.4 manual, section 3.1).
use Rattle.std.specs.Prelude.{ℕ, ◌+◌, ◌-◌, ◌*◌, Bool, false, ◌&&◌, ◌||◌, List, [], ◌∷◌, Option, Some, None, is_some, unwrap_or, nat_le, ◌==◌, if◌then◌else◌, fold}
use Rattle.lua_names.specs.Names.{is_digit, is_name_byte}

-- white space: the bytes from tab to carriage return, and the blank
abbrev pub is_space : ℕ → Bool
is_space b = (nat_le 9 b && nat_le b 13) || b == 32

-- the bytes of which line breaks consist: line feed and carriage return
abbrev pub is_line_break : ℕ → Bool
is_line_break b = b == 10 || b == 13

-- what follows the first byte of a numeral
abbrev pub is_numeral_byte : ℕ → Bool
is_numeral_byte b = is_name_byte b || b == 46

abbrev pub is_quote : ℕ → Bool
is_quote b = b == 34 || b == 39

-- the value of a decimal or hexadecimal digit, in either case
abbrev pub digit_of : ℕ → Option ℕ
digit_of b =
    if is_digit b then Some (b - 48)
    else (if nat_le 65 b && nat_le b 70 then Some (b - 65 + 10)
    else (if nat_le 97 b && nat_le b 102 then Some (b - 97 + 10)
    else None))

abbrev pub is_hexadecimal : ℕ → Bool
is_hexadecimal b = is_some (digit_of b)

-- the number that digits spell in a base, the first digit weighing most
abbrev pub value : ℕ → List ℕ → ℕ
value base digits = fold (λ n digit. n * base + unwrap_or (digit_of digit) 0) 0 digits

-- the first byte is there and passes the test
abbrev pub begins_with : (ℕ → Bool) → List ℕ → Bool
begins_with test [] = false
begins_with test (b ∷ bs) = test b
