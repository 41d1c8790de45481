-- Quoted texts: the pieces between the quotes, and what each stands for (Lua 5.4 manual, section 3.1).
use Rattle.std.specs.Prelude.{◌≡◌, ◌≢◌, ℕ, ◌+◌, ◌/◌, ◌%◌, ◌<◌, ◌≤◌, ◌^◌, Bool, true, List, [], ◌∷◌, ◌++◌, length, Option, Some, None, unwrap_or, IsTrue, IsFalse, IsSome, nat_lt, ◌==◌, ◌&&◌, not, if◌then◌else◌}
use Rattle.std.specs.List.{list_all, flat_map}
use Rattle.lua_names.specs.Names.{is_digit}
use Rattle.lua_lexer.specs.Alphabet.{is_space, is_line_break, is_hexadecimal, is_quote, value, begins_with}
use Rattle.lua_lexer.specs.Turns.{InTurn}

pub data Piece : Type 0 where
  -- a byte that stands for itself
  Plain : ℕ → Piece
  -- `\` and a letter, `\`, or a quote
  Letter : ℕ → Piece
  -- `\` and a line break
  Break : List ℕ → Piece
  -- `\x` and two hexadecimal digits
  Hexadecimal : ℕ → ℕ → Piece
  -- `\` and decimal digits
  Decimal : List ℕ → Piece
  -- `\z` and white space
  Skip : List ℕ → Piece
  -- `\u{`, hexadecimal digits and `}`
  Unicode : List ℕ → Piece

abbrev pub piece_bytes : Piece → List ℕ
piece_bytes (Plain b) = b ∷ []
piece_bytes (Letter c) = 92 ∷ c ∷ []
piece_bytes (Break bytes) = 92 ∷ bytes
piece_bytes (Hexadecimal high low) = 92 ∷ 120 ∷ high ∷ low ∷ []
piece_bytes (Decimal digits) = 92 ∷ digits
piece_bytes (Skip space) = 92 ∷ 122 ∷ space
piece_bytes (Unicode digits) = 92 ∷ 117 ∷ 123 ∷ digits ++ 125 ∷ []

-- what stands for what behind a `\`: a b t n v f r, and `\` and both quotes for themselves
abbrev pub letter_value : ℕ → Option ℕ
letter_value c =
    if c == 97 then Some 7
    else (if c == 98 then Some 8
    else (if c == 116 then Some 9
    else (if c == 110 then Some 10
    else (if c == 118 then Some 11
    else (if c == 102 then Some 12
    else (if c == 114 then Some 13
    else (if c == 92 then Some 92
    else (if c == 34 then Some 34
    else (if c == 39 then Some 39
    else None)))))))))

-- a byte of UTF-8 behind the first, with the low six bits
abbrev pub continuation : ℕ → ℕ
continuation n = 128 + n % 64

-- a number below 2 to the 31st in UTF-8, in its original form of up to six bytes (RFC 2279)
unfoldable pub utf8 : ℕ → List ℕ
utf8 n =
    if nat_lt n 0x80 then n ∷ []
    else (if nat_lt n 0x800 then (0xC0 + n / 0x40) ∷ continuation n ∷ []
    else (if nat_lt n 0x10000 then (0xE0 + n / 0x1000) ∷ continuation (n / 0x40) ∷ continuation n ∷ []
    else (if nat_lt n 0x200000 then (0xF0 + n / 0x40000) ∷ continuation (n / 0x1000) ∷ continuation (n / 0x40) ∷ continuation n ∷ []
    else (if nat_lt n 0x4000000 then (0xF8 + n / 0x1000000) ∷ continuation (n / 0x40000) ∷ continuation (n / 0x1000) ∷ continuation (n / 0x40) ∷ continuation n ∷ []
    else (0xFC + n / 0x40000000) ∷ continuation (n / 0x1000000) ∷ continuation (n / 0x40000) ∷ continuation (n / 0x1000) ∷ continuation (n / 0x40) ∷ continuation n ∷ []))))

abbrev pub piece_text : Piece → List ℕ
piece_text (Plain b) = b ∷ []
piece_text (Letter c) = unwrap_or (letter_value c) 0 ∷ []
piece_text (Break bytes) = 10 ∷ []
piece_text (Hexadecimal high low) = value 16 (high ∷ low ∷ []) ∷ []
piece_text (Decimal digits) = value 10 digits ∷ []
piece_text (Skip space) = []
piece_text (Unicode digits) = utf8 (value 16 digits)

-- a line break: LF, CR, CR LF or LF CR
abbrev pub IsBreak : List ℕ → Type 0
IsBreak [] = ⊥
IsBreak (a ∷ []) = IsTrue (is_line_break a)
IsBreak (a ∷ b ∷ []) = IsTrue (is_line_break a) × IsTrue (is_line_break b) × (a ≢ b)
IsBreak (a ∷ b ∷ c ∷ more) = ⊥

-- what makes a piece one between two such quotes
abbrev pub IsPiece : ℕ → Piece → Type 0
IsPiece quote (Plain b) = (b ≢ quote) × (b ≢ 92) × IsFalse (is_line_break b)
IsPiece quote (Letter c) = IsSome (letter_value c)
IsPiece quote (Break bytes) = IsBreak bytes
IsPiece quote (Hexadecimal high low) = IsTrue (is_hexadecimal high) × IsTrue (is_hexadecimal low)
IsPiece quote (Decimal digits) = IsTrue (begins_with is_digit digits) × IsTrue (list_all is_digit digits) × (length digits ≤ 3) × (value 10 digits ≤ 255)
IsPiece quote (Skip space) = IsTrue (list_all is_space space)
IsPiece quote (Unicode digits) = IsTrue (begins_with is_hexadecimal digits) × IsTrue (list_all is_hexadecimal digits) × (value 16 digits < 2 ^ 31)

-- A piece takes all that it may of what follows: both bytes of a line break, digits up to the third, white space.
abbrev pub MayPrecede : Piece → List ℕ → Type 0
MayPrecede (Break (a ∷ [])) after = IsFalse (begins_with (λ b. is_line_break b && not (b == a)) after)
MayPrecede (Decimal digits) after = length digits < 3 → IsFalse (begins_with is_digit after)
MayPrecede (Skip space) after = IsFalse (begins_with is_space after)
MayPrecede _ after = Unit {0}

abbrev pub FitsPiece : ℕ → Piece → List ℕ → Type 0
FitsPiece quote piece after = IsPiece quote piece × MayPrecede piece after

-- the bytes spell this text between two quotes
pub record IsQuoted (text bytes : List ℕ) : Type 0 where
  pub quote : ℕ
  pub pieces : List Piece
  pub is_quote : IsTrue (is_quote quote)
  pub in_turn : InTurn piece_bytes (FitsPiece quote) pieces (quote ∷ [])
  pub spelled : bytes ≡ quote ∷ flat_map piece_bytes pieces ++ quote ∷ []
  pub stands_for : text ≡ flat_map piece_text pieces

-- ---- where a quoted text can't be read

-- some piece begins with these bytes
abbrev pub BeginsPiece : ℕ → List ℕ → Type 0
BeginsPiece quote front = (piece : Piece) × (more : List ℕ) × IsPiece quote piece × (piece_bytes piece ≡ front ++ more)

-- From the opening quote on pieces can be read, and then neither a piece nor the closing quote stands, at this
-- place behind the opening quote. There the bytes of `front` begin a piece and one byte more doesn't: the first
-- byte of `failed`, or the end, is where reading fails.
pub record FailsToClose (rest front failed : List ℕ) (place : ℕ) : Type 0 where
  pub quote : ℕ
  pub pieces : List Piece
  pub is_quote : IsTrue (is_quote quote)
  pub in_turn : InTurn piece_bytes (FitsPiece quote) pieces (front ++ failed)
  pub spelled : rest ≡ quote ∷ flat_map piece_bytes pieces ++ (front ++ failed)
  pub place_is : place ≡ 1 + length (flat_map piece_bytes pieces)
  pub not_closed : IsFalse (begins_with (λ b. b == quote) (front ++ failed))
  pub no_piece : (piece : Piece) (after : List ℕ) → front ++ failed ≡ piece_bytes piece ++ after → FitsPiece quote piece after → ⊥
  pub begun : BeginsPiece quote front
  pub stuck : (b : ℕ) (more : List ℕ) → failed ≡ b ∷ more → BeginsPiece quote (front ++ b ∷ []) → ⊥

-- the line or the text ends here
abbrev pub ends_line : List ℕ → Bool
ends_line [] = true
ends_line (b ∷ bs) = is_line_break b
