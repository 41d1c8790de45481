-- The components of a version: numbers and words. (LuaRocks.)
use Rattle.std.specs.Prelude.{ℕ, Bool, not, List, [], ◌∷◌, if◌then◌else◌, Option, Some, None}
use Rattle.std.specs.List.{filter_map}
use Rattle.std.specs.Char.{is_ascii_alphanumeric, is_ascii_alphabetic, is_ascii_digit}
use Rattle.std.specs.Str.Parse.{digits_value}

pub data Component : Type 0 where
  Number : ℕ → Component
  Word : List ℕ → Component

-- a digit is alike to digits, a letter to letters, and any other byte to those that are neither
abbrev pub is_alike : ℕ → ℕ → Bool
is_alike b c =
    if is_ascii_digit b then is_ascii_digit c
    else (if is_ascii_alphabetic b then is_ascii_alphabetic c else not (is_ascii_alphanumeric c))

-- a byte joins the first of the runs where it is alike to that run's first byte, and else is a run of its own
abbrev pub joined : ℕ → List (List ℕ) → List (List ℕ)
joined b [] = (b ∷ []) ∷ []
joined b ([] ∷ runs) = (b ∷ []) ∷ runs
joined b ((c ∷ run) ∷ runs) = if is_alike b c then (b ∷ c ∷ run) ∷ runs else (b ∷ []) ∷ (c ∷ run) ∷ runs

-- a text cut wherever a byte isn't alike to the one before it
abbrev pub runs_of : List ℕ → List (List ℕ)
runs_of [] = []
runs_of (b ∷ bs) = joined b (runs_of bs)

-- digits are a number and letters a word; what stands between is neither
abbrev pub component_of : List ℕ → Option Component
component_of [] = None
component_of (b ∷ bs) =
    if is_ascii_digit b then Some (Number (digits_value 10 (b ∷ bs)))
    else (if is_ascii_alphabetic b then Some (Word (b ∷ bs)) else None)

-- the numbers and words of a text, in their order
unfoldable pub components : List ℕ → List Component
components text = filter_map component_of (runs_of text)
