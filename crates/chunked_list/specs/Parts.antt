-- A list that lies in parts, one after another.
use Rattle.std.specs.Prelude.{◌≡◌, ℕ, zero, suc, ◌+◌, ◌<◌, List, [], ◌∷◌, ◌++◌, length, All, Result, Ok, Err}

-- the items of all parts, from the items of each
abbrev pub joined : {P T : Type 0} → (P → List T) → List P → List T
joined items_of [] = []
joined items_of (part ∷ parts) = items_of part ++ joined items_of parts

-- how many items a part has
abbrev pub size : {P T : Type 0} → (P → List T) → List P → ℕ → ℕ
size items_of [] k = 0
size items_of (part ∷ parts) zero = length (items_of part)
size items_of (part ∷ parts) (suc k) = size items_of parts k

-- how many items stand before a part
abbrev pub before : {P T : Type 0} → (P → List T) → List P → ℕ → ℕ
before items_of parts zero = 0
before items_of [] (suc k) = 0
before items_of (part ∷ parts) (suc k) = length (items_of part) + before items_of parts k

-- a place of the whole is place i of part k
pub record IsPlace {P T : Type 0} (items_of : P → List T) (parts : List P) (at k i : ℕ) : Type 0 where
  pub is_part : k < length parts
  pub within : i < size items_of parts k
  pub same : before items_of parts k + i ≡ at

-- each part is as it has to be, and the number is that of all items
pub record AreParts {P T : Type 0} (items_of : P → List T) (IsPart : P → Type 0) (parts : List P) (n : ℕ) : Type 0 where
  pub each : All IsPart parts
  pub counted : n ≡ length (joined items_of parts)

-- what a search within a part has found, as a place of the whole with so many items before the part
abbrev pub moved : Result ℕ ℕ → ℕ → Result ℕ ℕ
moved (Ok at) start = Ok (start + at)
moved (Err at) start = Err (start + at)
