-- Which paths are visited, in which order, and which faults they have.
use Rattle.std.specs.Prelude.{◌≡◌, ℕ, List, [], ◌∷◌, ◌++◌, ◌⊎◌, Some, None}
use Rattle.std.specs.declared.cmp.Ordering.TheVariants.{Less}
use Rattle.std.specs.Cmp.Lexicographic.{slice_cmp}
use Rattle.lua_value.specs.declared.key.Key.{Key}
use Rattle.lua_value.specs.Key.{key_cmp}
use Rattle.lua_value.specs.Pairs.{Datum, Pairs, table_value}
use Rattle.schema_table.specs.declared.row.Row.{Row}
use Rattle.schema_table.specs.declared.row.Format.{Format}
use Rattle.schema_table.specs.declared.row.Shape.{Shape}
use Rattle.schema_table.specs.declared.row.Shape.TheVariants.{Text, Bool, Texts, Mixed, Named, Closed, Open, Lists}
use Rattle.schema_table.specs.declared.fault.ShapeFault.{ShapeFault}
use Rattle.schema_table.specs.declared.fault.ShapeFault.TheVariants.{Unknown, TooNew, WrongShape, Missing, NoMemory}
use Rattle.schema_table.specs.Formats.{IsOlder}
use Rattle.schema_table.specs.Paths.{at_path, path_text}
use Rattle.schema_table.specs.Rows.{row_number, IsRowOf, HasDeeper}
use Rattle.schema_table.specs.Shapes.{HasShape}

-- a table of this shape at the path is gone into
abbrev pub IsOpened : List Row → List Key → Shape → Type 0
IsOpened rows path Text = ⊥
IsOpened rows path Bool = ⊥
IsOpened rows path Texts = ⊥
IsOpened rows path Mixed = ⊥
IsOpened rows path Named = HasDeeper rows path
IsOpened rows path Closed = Unit {0}
IsOpened rows path Open = Unit {0}
IsOpened rows path Lists = Unit {0}

-- the path has a row, and a table of the row's shape is gone into there
pub record IsGoneInto (rows : List Row) (path : List Key) : Type 0 where
  pub number : ℕ
  pub row : Row
  pub is_row : IsRowOf rows path number row
  pub opened : IsOpened rows path row.shape

-- the value stands at the path, and each table that the path leads through is gone into
pub record IsVisited (rows : List Row) (table : Pairs) (path : List Key) (value : Datum) : Type 0 where
  pub some : ¬ (path ≡ [])
  pub there : at_path (table_value table) path ≡ Some value
  pub through : (front back : List Key) → path ≡ front ++ back → ¬ (front ≡ []) → ¬ (back ≡ []) → IsGoneInto rows front

-- the path has a row of shape Closed
pub record HasClosedRow (rows : List Row) (path : List Key) : Type 0 where
  pub number : ℕ
  pub row : Row
  pub is_row : IsRowOf rows path number row
  pub closed : row.shape ≡ Closed

-- a table at the path is closed: it is the whole one, or has a row of shape Closed
abbrev pub IsClosed : List Row → List Key → Type 0
IsClosed rows path = (path ≡ []) ⊎ HasClosedRow rows path

-- the path has no row, and the table above is closed
pub record IsUnknown (rows : List Row) (path : List Key) (told : List ℕ) : Type 0 where
  pub no_row : row_number rows path ≡ None
  pub front : List Key
  pub last : Key
  pub are : path ≡ front ++ last ∷ []
  pub closed : IsClosed rows front
  pub text : told ≡ path_text path

-- the format is older than the path's row
pub record IsTooNew (rows : List Row) (format : Format) (path : List Key) (number : ℕ) : Type 0 where
  pub row : Row
  pub is_row : IsRowOf rows path number row
  pub older : IsOlder format row.since

-- the format isn't older than the path's row, and the value doesn't have that row's shape
pub record IsMisshapen (rows : List Row) (format : Format) (path : List Key) (value : Datum) (number : ℕ) : Type 0 where
  pub row : Row
  pub is_row : IsRowOf rows path number row
  pub in_time : ¬ IsOlder format row.since
  pub other : ¬ HasShape row.shape value

-- a visited path at which this value stands has the fault
abbrev pub IsFaultOf : List Row → Format → List Key → Datum → ShapeFault → Type 0
IsFaultOf rows format path value (Unknown told) = IsUnknown rows path told
IsFaultOf rows format path value (TooNew number) = IsTooNew rows format path number
IsFaultOf rows format path value (WrongShape number) = IsMisshapen rows format path value number
IsFaultOf rows format path value (Missing number) = ⊥
IsFaultOf rows format path value NoMemory = ⊥

-- paths are visited by their keys in key order, and a path before those that it leads on to
abbrev pub IsBefore : List Key → List Key → Type 0
IsBefore path other = slice_cmp key_cmp path other ≡ Less

-- no visited path has a fault
abbrev pub IsFaultless : List Row → Pairs → Format → Type 0
IsFaultless rows table format =
    (path : List Key) (value : Datum) (fault : ShapeFault) → IsVisited rows table path value →
    ¬ IsFaultOf rows format path value fault

-- the fault is that of a visited path, and no path that is visited before has one
pub record IsFirstFault (rows : List Row) (table : Pairs) (format : Format) (fault : ShapeFault) : Type 0 where
  pub path : List Key
  pub value : Datum
  pub visited : IsVisited rows table path value
  pub is : IsFaultOf rows format path value fault
  pub earlier : (other : List Key) (found : Datum) (its : ShapeFault) → IsVisited rows table other found →
      IsBefore other path → ¬ IsFaultOf rows format other found its
