-- The keys of tables, and their order (this project's own).
use Rattle.std.specs.Prelude.{ℕ, ◌^◌, ◌<◌}
use Rattle.std.specs.declared.cmp.Ordering.{Ordering}
use Rattle.std.specs.declared.cmp.Ordering.TheVariants.{Less, Greater}
use Rattle.std.specs.Ordering.{nat_cmp, bool_cmp}
use Rattle.std.specs.Cmp.Lexicographic.{slice_cmp}
use Rattle.lua_value.specs.declared.key.Key.{Key}
use Rattle.lua_value.specs.declared.key.Key.TheVariants.{Int, Text, Bool as Truth}

-- integers come first, by their numbers, then texts, by their bytes as unsigned numbers, then false and true
abbrev pub key_cmp : Key → Key → Ordering
key_cmp (Int a) (Int b) = nat_cmp a b
key_cmp (Int a) (Text b) = Less
key_cmp (Int a) (Truth b) = Less
key_cmp (Text a) (Int b) = Greater
key_cmp (Text a) (Text b) = slice_cmp nat_cmp a b
key_cmp (Text a) (Truth b) = Less
key_cmp (Truth a) (Int b) = Greater
key_cmp (Truth a) (Text b) = Greater
key_cmp (Truth a) (Truth b) = bool_cmp a b

-- an integer that is served is at most 9,223,372,036,854,775,807 (Lua 5.4 manual, section 2.1)
abbrev pub IsInteger : ℕ → Type 0
IsInteger n = n < 2 ^ 63

-- an integer key is one that is served
abbrev pub IsKey : Key → Type 0
IsKey (Int n) = IsInteger n
IsKey (Text bytes) = Unit {0}
IsKey (Truth b) = Unit {0}
