-- Which row of a schema is a path's.
use Rattle.std.specs.Prelude.{◌≡◌, ℕ, Bool, ◌&&◌, ◌||◌, not, List, [], ◌∷◌, ◌++◌, Option, Some, codes, position}
use Rattle.std.specs.Prelude.{slice_get, IsTrue, Contains}
use Rattle.std.specs.Option.{option_or}
use Rattle.std.specs.List.{list_all}
use Rattle.std.specs.Cmp.Lexicographic.{pointwise}
use Rattle.std.specs.Str.{bytes_eq}
use Rattle.lua_value.specs.declared.key.Key.{Key}
use Rattle.lua_value.specs.declared.key.Key.TheVariants.{Int, Text, Bool as Truth}
use Rattle.schema_table.specs.declared.row.Row.{Row}
use Rattle.schema_table.specs.Paths.{referents}

-- a part that stands for any key
abbrev pub is_star : List ℕ → Bool
is_star part = bytes_eq part (codes "*")

-- a part matches a key: `*` any key, and any other part the text key of its bytes alone
abbrev pub part_matches : List ℕ → Key → Bool
part_matches part (Text bytes) = is_star part || bytes_eq part bytes
part_matches part (Int n) = is_star part
part_matches part (Truth b) = is_star part

-- parts match a path of as many keys, each part the key at its place
abbrev pub matches : List (List ℕ) → List Key → Bool
matches parts path = pointwise part_matches parts path

abbrev pub parts_of : Row → List (List ℕ)
parts_of row = referents row.path.now

abbrev pub row_matches : List Key → Row → Bool
row_matches path row = matches (parts_of row) path

-- the row matches the path, and none of its parts is `*`
abbrev pub row_matches_exactly : List Key → Row → Bool
row_matches_exactly path row = list_all (λ part. not (is_star part)) (parts_of row) && row_matches path row

-- the number of a path's row, counted from 0: the first that matches it without a `*`, and where there is none the
-- first that matches it
abbrev pub row_number : List Row → List Key → Option ℕ
row_number rows path = option_or (position (row_matches_exactly path) rows) (position (row_matches path) rows)

-- a path's row, and its number
pub record IsRowOf (rows : List Row) (path : List Key) (number : ℕ) (row : Row) : Type 0 where
  pub first : row_number rows path ≡ Some number
  pub there : slice_get rows number ≡ Some row

-- a row has one more part than the path, and those before it match the path
pub record IsDeeper (path : List Key) (row : Row) : Type 0 where
  pub front : List (List ℕ)
  pub last : List ℕ
  pub are : parts_of row ≡ front ++ last ∷ []
  pub leads : IsTrue (matches front path)

-- there is such a row
pub record HasDeeper (rows : List Row) (path : List Key) : Type 0 where
  pub row : Row
  pub among : Contains rows row
  pub deeper : IsDeeper path row
