-- What rocks need of each other. (LuaRocks; that Lua provides `lua` as 5.4-1 is this project's own.)
use Rattle.std.specs.Prelude.{Bool, ◌&&◌, List, ◌∷◌, codes, IsTrue}
use Rattle.std.specs.List.{All, find, list_any}
use Rattle.std.specs.Option.{option_map_or}
use Rattle.std.specs.Str.{bytes_eq}
use Rattle.rocks_constraint.specs.Meets.{meets_all}
use Rattle.rocks_constraint.specs.Wanted.{Wanted}
use Rattle.rocks_version.specs.declared.key.RockKey.{RockKey}
use Rattle.tree_sets.specs.Sets.{keys_in}
use Rattle.tree_sets.specs.declared.entry.IndexEntry.{IndexEntry}

-- what Lua itself provides
abbrev pub lua_key : RockKey
lua_key = record { name = codes "lua"; version = codes "5.4-1" }

-- the rock with this key meets the dependency
abbrev pub is_met_by : Wanted → RockKey → Bool
is_met_by wanted key = bytes_eq wanted.name key.name && meets_all key.version wanted.constraints

-- Lua or one of the rocks meets the dependency
abbrev pub is_met : List RockKey → Wanted → Bool
is_met keys wanted = list_any (is_met_by wanted) (lua_key ∷ keys)

-- all that the rocks need is met
abbrev pub IsClosed : List IndexEntry → Type 0
IsClosed entries = All (λ entry. All (λ wanted. IsTrue (is_met (keys_in entries) wanted)) entry.dependencies) entries

-- The rock that meets a dependency: the first, which is the newest of its name, since rocks are listed so. Where none
-- does, which no closed set has, it is Lua.
abbrev pub met_by : List RockKey → Wanted → RockKey
met_by keys wanted = option_map_or (λ key. key) (find (is_met_by wanted) (lua_key ∷ keys)) lua_key
