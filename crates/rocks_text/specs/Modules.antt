-- Names of Lua modules, and where a module's file stands among the Lua modules (LuaRocks documentation: rockspec
-- format, the `modules` of a `builtin` build). The bytes that a name may have are this project's own.
use Rattle.std.specs.Prelude.{ℕ, Bool, ◌==◌, ◌&&◌, ◌||◌, not, nat_le, List, length, ◌++◌, codes, map, if◌then◌else◌}
use Rattle.std.specs.List.{ends_with, list_all, slice_split}
use Rattle.std.specs.Bool.{nat_eq}
use Rattle.std.specs.Char.{is_ascii_alphanumeric}
use Rattle.std.specs.Str.{bytes_eq}

-- a byte of a module's name that is no dot: a letter, a digit, `_` or `-`
abbrev pub is_module_byte : ℕ → Bool
is_module_byte b = is_ascii_alphanumeric b || b == 95 || b == 45

-- what stands between the dots of a module's name
abbrev pub is_module_part : List ℕ → Bool
is_module_part part = nat_le 1 (length part) && list_all is_module_byte part

-- the name of a module: such parts joined by `.`
abbrev pub is_module_name : List ℕ → Bool
is_module_name name = list_all is_module_part (slice_split (λ b. b == 46) name)

-- the parts of a module's name joined by `/`
abbrev pub slashed : List ℕ → List ℕ
slashed name = map (λ b. if b == 46 then 47 else b) name

-- the last part of a path is `init.lua`
abbrev pub is_init_file : List ℕ → Bool
is_init_file file = bytes_eq file (codes "init.lua") || ends_with nat_eq file (codes "/init.lua")

-- the name is that of a module `init` within another
abbrev pub is_init_module : List ℕ → Bool
is_init_module name = ends_with nat_eq name (codes ".init")

-- what stands behind the parts of a module's name
abbrev pub module_ending : (name file : List ℕ) → List ℕ
module_ending name file =
    if is_init_file file && not (is_init_module name) then codes "/init.lua" else codes ".lua"

-- The path of a module that a file holds: its parts, then `.lua`. A file `init.lua` holds the folder's own module, unless
-- the name says `init` itself.
abbrev pub module_path : (name file : List ℕ) → List ℕ
module_path name file = slashed name ++ module_ending name file
