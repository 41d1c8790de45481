-- The same below a path, for a walk that has come to it.
use Rattle.std.specs.Prelude.{◌≡◌, List, [], ◌∷◌, ◌++◌, Some}
use Rattle.lua_value.specs.declared.key.Key.{Key}
use Rattle.lua_value.specs.Pairs.{Datum, Pairs, value_at}
use Rattle.schema_table.specs.declared.row.Row.{Row}
use Rattle.schema_table.specs.declared.row.Format.{Format}
use Rattle.schema_table.specs.declared.fault.ShapeFault.{ShapeFault}
use Rattle.schema_table.specs.declared.fault.ShapeFault.TheVariants.{Unknown, TooNew, WrongShape, Missing, NoMemory}
use Rattle.schema_table.specs.Paths.{at_path}
use Rattle.schema_table.specs.Visits.{IsGoneInto, IsUnknown, IsFaultOf, IsBefore}

-- each table that the keys lead through from a path on is gone into, that at the path among them
abbrev pub LeadsOn : List Row → List Key → List Key → Type 0
LeadsOn rows base [] = Unit {0}
LeadsOn rows base (key ∷ rest) = IsGoneInto rows base × LeadsOn rows (base ++ key ∷ []) rest

-- from a value that stands at a path the keys lead to another one that is visited
pub record IsReached (rows : List Row) (base : List Key) (start : Datum) (keys : List Key)
    (value : Datum) : Type 0 where
  pub there : at_path start keys ≡ Some value
  pub through : LeadsOn rows base keys

-- the same from an entry of a table that stands at a path
pub record IsReachedIn (rows : List Row) (base : List Key) (table : Pairs) (key : Key) (keys : List Key)
    (value : Datum) : Type 0 where
  pub start : Datum
  pub entry : value_at key table ≡ Some start
  pub reached : IsReached rows (base ++ key ∷ []) start keys value

-- the value at a path has no fault of its own
abbrev pub IsFaultlessAt : List Row → Format → List Key → Datum → Type 0
IsFaultlessAt rows format path value = (fault : ShapeFault) → ¬ IsFaultOf rows format path value fault

-- the fault is that the path is unknown
abbrev pub IsUnknownFault : List Row → List Key → ShapeFault → Type 0
IsUnknownFault rows path (Unknown told) = IsUnknown rows path told
IsUnknownFault rows path (TooNew number) = ⊥
IsUnknownFault rows path (WrongShape number) = ⊥
IsUnknownFault rows path (Missing number) = ⊥
IsUnknownFault rows path NoMemory = ⊥

-- nothing that is reached from a value has a fault
abbrev pub IsClear : List Row → Format → List Key → Datum → Type 0
IsClear rows format base start =
    (keys : List Key) (value : Datum) (fault : ShapeFault) → IsReached rows base start keys value →
    ¬ IsFaultOf rows format (base ++ keys) value fault

abbrev pub IsClearTable : List Row → Format → List Key → Pairs → Type 0
IsClearTable rows format base table =
    (key : Key) (keys : List Key) (value : Datum) (fault : ShapeFault) → IsReachedIn rows base table key keys value →
    ¬ IsFaultOf rows format (base ++ key ∷ keys) value fault

-- the fault is that of the first that is reached from a value and has one
pub record IsFirstReached (rows : List Row) (format : Format) (base : List Key) (start : Datum)
    (fault : ShapeFault) : Type 0 where
  pub keys : List Key
  pub value : Datum
  pub reached : IsReached rows base start keys value
  pub is : IsFaultOf rows format (base ++ keys) value fault
  pub earlier : (others : List Key) (found : Datum) (its : ShapeFault) → IsReached rows base start others found →
      IsBefore others keys → ¬ IsFaultOf rows format (base ++ others) found its

pub record IsFirstReachedIn (rows : List Row) (format : Format) (base : List Key) (table : Pairs)
    (fault : ShapeFault) : Type 0 where
  pub key : Key
  pub keys : List Key
  pub value : Datum
  pub reached : IsReachedIn rows base table key keys value
  pub is : IsFaultOf rows format (base ++ key ∷ keys) value fault
  pub earlier : (other : Key) (others : List Key) (found : Datum) (its : ShapeFault) →
      IsReachedIn rows base table other others found → IsBefore (other ∷ others) (key ∷ keys) →
      ¬ IsFaultOf rows format (base ++ other ∷ others) found its

-- a fact for each fault but want of memory
abbrev pub IfTold : ShapeFault → Type 0 → Type 0
IfTold (Unknown told) P = P
IfTold (TooNew number) P = P
IfTold (WrongShape number) P = P
IfTold (Missing number) P = P
IfTold NoMemory P = Unit {0}
