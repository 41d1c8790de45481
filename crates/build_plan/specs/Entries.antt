-- The entries of a build that name files (LuaRocks documentation, rockspec format: build).
use Rattle.std.specs.Prelude.{ℕ, Bool, List, [], ◌++◌, Option, Some, None, codes, map, if◌then◌else◌, Result}
use Rattle.std.specs.Str.{bytes_eq}
use Rattle.lua_value.specs.declared.key.Key.{Key}
use Rattle.lua_value.specs.declared.key.Key.TheVariants.{Text}
use Rattle.build_targets.specs.declared.meanings.Listing.{Listing}
use Rattle.build_targets.specs.declared.meanings.Listing.TheVariants.{Modules, Lua, Lib, Bin, Conf}
use Rattle.build_targets.specs.declared.target.Target.{Target}
use Rattle.build_targets.specs.Meanings.{meaning_at}
use Rattle.lua_value.specs.Pairs.{Datum, Pairs, nil, truth_value, int_value, text_value, table_value, value_at, listed}
pub use Rattle.rockspec_table.specs.Platforms.{table_at}

-- the bytes of a text; another value has none
abbrev pub bytes_of : Datum → List ℕ
bytes_of nil = []
bytes_of (truth_value b) = []
bytes_of (int_value n) = []
bytes_of (text_value bytes) = bytes
bytes_of (table_value ps) = []

-- the table `build` of the fields, and the table `install` in it
abbrev pub build_of : (fields : Pairs) → Pairs
build_of fields = table_at (codes "build") fields

abbrev pub install_of : (fields : Pairs) → Pairs
install_of fields = table_at (codes "install") (build_of fields)

-- what a build's `type` says: an absent one says `builtin`
abbrev pub type_said : Option Datum → List ℕ
type_said None = codes "builtin"
type_said (Some value) = bytes_of value

abbrev pub build_type : (fields : Pairs) → List ℕ
build_type fields = type_said (value_at (Text (codes "type")) (build_of fields))

abbrev pub is_builtin : (fields : Pairs) → Bool
is_builtin fields = bytes_eq (build_type fields) (codes "builtin")

-- an entry of a list: its key, and the file that it names
pub record Entry : Type 0 where
  pub listing : Listing
  pub key : Key
  pub file : List ℕ

-- the entries of a table, in the order of their keys
abbrev pub entries_of : Listing → Pairs → List Entry
entries_of listing ps = map (λ pair. record { listing = listing; key = pair.0; file = bytes_of pair.1 }) (listed ps)

-- the modules of a `builtin` build; a `none` build has none
abbrev pub module_entries : (fields : Pairs) → List Entry
module_entries fields =
    if is_builtin fields then entries_of Modules (table_at (codes "modules") (build_of fields)) else []

-- all entries, in the order in which they are looked at
abbrev pub entries : (fields : Pairs) → List Entry
entries fields =
    module_entries fields
    ++ (entries_of Lua (table_at (codes "lua") (install_of fields))
    ++ (entries_of Lib (table_at (codes "lib") (install_of fields))
    ++ (entries_of Bin (table_at (codes "bin") (install_of fields))
    ++ entries_of Conf (table_at (codes "conf") (install_of fields)))))

-- the texts of `copy_directories`, in the order of their keys
abbrev pub named_folders : (fields : Pairs) → List (List ℕ)
named_folders fields = map (λ pair. bytes_of pair.1) (listed (table_at (codes "copy_directories") (build_of fields)))

-- what an entry means, or which of its texts has no meaning
abbrev pub meaning : Entry → Result Target (List ℕ)
meaning entry = meaning_at entry.listing entry.key entry.file
