-- The tables for platforms of a rockspec's fields (LuaRocks documentation, rockspec format: platforms). The platforms
-- are `unix` and `linux`.
use Rattle.std.specs.Prelude.{◌≡◌, ◌⊎◌, ℕ, ◌<◌, Bool, false, List, [], ◌∷◌, Option, Some, None, codes, if◌then◌else◌, slice_get}
use Rattle.std.specs.List.{list_any}
use Rattle.std.specs.Ordering.{is_eq}
use Rattle.std.specs.Str.{bytes_eq}
use Rattle.lua_value.specs.declared.key.Key.{Key}
use Rattle.lua_value.specs.declared.key.Key.TheVariants.{Int, Text, Bool as Truth}
use Rattle.lua_value.specs.Key.{key_cmp}
use Rattle.lua_value.specs.Merge.{merged_pairs}
use Rattle.lua_value.specs.Pairs.{Datum, Pairs, nil, truth_value, int_value, text_value, table_value, no_pairs, with_pair, value_at}

-- the fields that may have tables for platforms, in the order in which their faults are told
abbrev pub platform_fields : List (List ℕ)
platform_fields =
    codes "build" ∷ codes "dependencies" ∷ codes "build_dependencies" ∷ codes "test_dependencies"
    ∷ codes "external_dependencies" ∷ codes "source" ∷ codes "hooks" ∷ codes "test" ∷ []

-- the key is that of such a field
abbrev pub is_platform_field : Key → Bool
is_platform_field (Text name) = list_any (bytes_eq name) platform_fields
is_platform_field (Int n) = false
is_platform_field (Truth b) = false

-- the table that a value is; of another value, and where there is none, a table without entries
abbrev pub table_of : Option Datum → Pairs
table_of None = no_pairs
table_of (Some nil) = no_pairs
table_of (Some (truth_value b)) = no_pairs
table_of (Some (int_value n)) = no_pairs
table_of (Some (text_value bytes)) = no_pairs
table_of (Some (table_value ps)) = ps

-- the table at a text key
abbrev pub table_at : (name : List ℕ) → Pairs → Pairs
table_at name ps = table_of (value_at (Text name) ps)

-- the entries but the one with the key
abbrev pub without : Key → Pairs → Pairs
without key no_pairs = no_pairs
without key (with_pair first value rest) =
    if is_eq (key_cmp key first) then without key rest else with_pair first value (without key rest)

-- a field's table without `platforms`, with the tables `unix` and `linux` of that merged over it in turn
abbrev pub for_platforms : Pairs → Pairs
for_platforms field =
    merged_pairs
    (merged_pairs (without (Text (codes "platforms")) field)
    (table_at (codes "unix") (table_at (codes "platforms") field)))
    (table_at (codes "linux") (table_at (codes "platforms") field))

-- what becomes of the value at a key of the globals
abbrev pub field_value : Key → Datum → Datum
field_value key nil = nil
field_value key (truth_value b) = truth_value b
field_value key (int_value n) = int_value n
field_value key (text_value bytes) = text_value bytes
field_value key (table_value ps) = table_value (if is_platform_field key then for_platforms ps else ps)

-- the globals with their fields merged
abbrev pub merged_fields : Pairs → Pairs
merged_fields no_pairs = no_pairs
merged_fields (with_pair key value rest) = with_pair key (field_value key value) (merged_fields rest)

-- there is something, and it is no table
abbrev pub IsNoTable : Option Datum → Type 0
IsNoTable None = ⊥
IsNoTable (Some nil) = Unit {0}
IsNoTable (Some (truth_value b)) = Unit {0}
IsNoTable (Some (int_value n)) = Unit {0}
IsNoTable (Some (text_value bytes)) = Unit {0}
IsNoTable (Some (table_value ps)) = ⊥

-- `platforms` or one of its tables `unix` and `linux` is there and is no table
abbrev pub HasBadPlatforms : (field : Pairs) → Type 0
HasBadPlatforms field =
    IsNoTable (value_at (Text (codes "platforms")) field)
    ⊎ (IsNoTable (value_at (Text (codes "unix")) (table_at (codes "platforms") field))
    ⊎ IsNoTable (value_at (Text (codes "linux")) (table_at (codes "platforms") field)))

-- the field of this number has such platforms; a field that is no table has none
pub record IsBadField (globals : Pairs) (number : ℕ) (name : List ℕ) : Type 0 where
  pub is : slice_get platform_fields number ≡ Some name
  pub bad : HasBadPlatforms (table_at name globals)

-- the field is the first of those
pub record IsFirstBadField (globals : Pairs) (name : List ℕ) : Type 0 where
  pub number : ℕ
  pub here : IsBadField globals number name
  pub first : (earlier : ℕ) (other : List ℕ) → earlier < number → ¬ IsBadField globals earlier other

-- no field has such platforms
abbrev pub HasGoodPlatforms : (globals : Pairs) → Type 0
HasGoodPlatforms globals = (number : ℕ) (name : List ℕ) → ¬ IsBadField globals number name
