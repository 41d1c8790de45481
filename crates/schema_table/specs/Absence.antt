-- What is missing of a table.
use Rattle.std.specs.Prelude.{◌≡◌, ℕ, List, [], ◌∷◌, ◌++◌, Some, slice_get, IsTrue}
use Rattle.lua_value.specs.declared.key.Key.{Key}
use Rattle.lua_value.specs.Pairs.{Datum, Pairs, table_value, value_at}
use Rattle.schema_table.specs.declared.row.Row.{Row}
use Rattle.schema_table.specs.declared.row.Format.{Format}
use Rattle.schema_table.specs.Formats.{IsMandatory}
use Rattle.schema_table.specs.Paths.{at_path}
use Rattle.schema_table.specs.Rows.{part_matches, matches, parts_of}

-- the table has a key that the part matches
pub record HasMatch (part : List ℕ) (table : Pairs) : Type 0 where
  pub key : Key
  pub value : Datum
  pub there : value_at key table ≡ Some value
  pub same : IsTrue (part_matches part key)

-- a path that matches all parts but the last leads to a table, and no key of that table matches the last part
pub record IsAbsent (parts : List (List ℕ)) (table : Pairs) : Type 0 where
  pub front : List (List ℕ)
  pub last : List ℕ
  pub are : parts ≡ front ++ last ∷ []
  pub path : List Key
  pub leads : IsTrue (matches front path)
  pub above : Pairs
  pub there : at_path (table_value table) path ≡ Some (table_value above)
  pub none : ¬ HasMatch last above

-- what the row speaks of has to be there in the format, and is absent
pub record IsMissingRow (table : Pairs) (format : Format) (row : Row) : Type 0 where
  pub mandatory : IsMandatory row.must format
  pub absent : IsAbsent (parts_of row) table

-- so it is with the row of this number
pub record IsMissing (rows : List Row) (table : Pairs) (format : Format) (number : ℕ) : Type 0 where
  pub row : Row
  pub is_row : slice_get rows number ≡ Some row
  pub missing : IsMissingRow table format row

-- at a key that the first part matches stands a table from which the rest is absent
pub record IsAbsentWithin (first : List ℕ) (rest : List (List ℕ)) (table : Pairs) : Type 0 where
  pub key : Key
  pub same : IsTrue (part_matches first key)
  pub within : Pairs
  pub there : value_at key table ≡ Some (table_value within)
  pub absent : IsAbsent rest within
