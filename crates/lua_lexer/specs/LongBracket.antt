-- Long brackets (Lua 5.4 manual, section 3.1).
use Rattle.std.specs.Prelude.{◌≡◌, ℕ, ◌≤◌, List, [], ◌∷◌, ◌++◌, length, replicate, ◌&&◌, not, ◌==◌, if◌then◌else◌}
use Rattle.lua_lexer.specs.Alphabet.{is_line_break}

-- `[`, so many `=`, `[`
abbrev pub opening : ℕ → List ℕ
opening level = 91 ∷ replicate level 61 ++ 91 ∷ []

abbrev pub closing : ℕ → List ℕ
closing level = 93 ∷ replicate level 61 ++ 93 ∷ []

-- without the line break that the bytes begin with, if they do: one of LF, CR, CR LF and LF CR
abbrev pub without_break : List ℕ → List ℕ
without_break [] = []
without_break (a ∷ []) = if is_line_break a then [] else a ∷ []
without_break (a ∷ b ∷ bs) =
    if is_line_break a then (if is_line_break b && not (b == a) then bs else b ∷ bs)
    else a ∷ b ∷ bs

-- with each line break turned into one line feed
abbrev pub lines_of : List ℕ → List ℕ
lines_of [] = []
lines_of (a ∷ []) = if is_line_break a then 10 ∷ [] else a ∷ []
lines_of (a ∷ b ∷ bs) =
    if is_line_break a then 10 ∷ (if is_line_break b && not (b == a) then lines_of bs else lines_of (b ∷ bs))
    else a ∷ lines_of (b ∷ bs)

-- what a body stands for: its first line break is skipped where it begins with one
abbrev pub long_text : List ℕ → List ℕ
long_text body = lines_of (without_break body)

-- before what comes after them the bytes are a long bracket with this body, and no close of its level begins earlier
pub record IsBracket (body bytes after : List ℕ) : Type 0 where
  pub level : ℕ
  pub spelled : bytes ≡ opening level ++ (body ++ closing level)
  pub first : (x y : List ℕ) → body ++ (closing level ++ after) ≡ x ++ (closing level ++ y) → length body ≤ length x

-- a long bracket opens at the front of the bytes
abbrev pub Opens : List ℕ → Type 0
Opens bytes = (level : ℕ) × (inner : List ℕ) × (bytes ≡ opening level ++ inner)

-- a long bracket opens at the front of the bytes, and has no close
abbrev pub StaysOpen : List ℕ → Type 0
StaysOpen bytes = (level : ℕ) × (inner : List ℕ) × (bytes ≡ opening level ++ inner) × ((x y : List ℕ) → inner ≡ x ++ (closing level ++ y) → ⊥)
