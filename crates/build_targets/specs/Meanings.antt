-- What an entry of a build means (LuaRocks documentation, rockspec format: build; which texts have a meaning is this
-- project's own).
use Rattle.std.specs.Prelude.{ℕ, Bool, ◌==◌, ◌-◌, ◌&&◌, not, List, length, ◌++◌, drop, take, codes, if◌then◌else◌, Result, Ok, Err}
use Rattle.std.specs.List.{after_last, starts_with, ends_with}
use Rattle.std.specs.Bool.{nat_eq}
use Rattle.std.specs.Str.{is_utf8}
use Rattle.lua_value.specs.declared.key.Key.{Key}
use Rattle.lua_value.specs.declared.key.Key.TheVariants.{Int, Text, Bool as Truth}
use Rattle.rocks_text.specs.Modules.{is_module_name, is_init_file, is_init_module, module_path, slashed}
use Rattle.rocks_text.specs.Texts.{is_file_path}
use Rattle.rocks_text.specs.declared.item.Kind.{Kind}
use Rattle.rocks_text.specs.declared.item.Kind.TheVariants.{Lua, Lib, Bin}
use Rattle.build_targets.specs.declared.target.Dest.{Dest}
use Rattle.build_targets.specs.declared.target.Dest.TheVariants.{Item, Conf}
use Rattle.build_targets.specs.declared.target.Target.{Target}
use Rattle.build_targets.specs.declared.meanings.Listing.{Listing}
use Rattle.build_targets.specs.declared.meanings.Listing.TheVariants as listings

-- a path as a rockspec names it, without the `./` that it may begin with
abbrev pub source : List ℕ → List ℕ
source path = if starts_with nat_eq path (codes "./") then drop 2 path else path

-- a text is a path
abbrev pub is_path : List ℕ → Bool
is_path text = is_utf8 text && is_file_path text

-- a file or folder that a rockspec names is a path
abbrev pub is_source : List ℕ → Bool
is_source file = is_path (source file)

-- the last part of a path, and what stands before it, with its slash
abbrev pub last_part : List ℕ → List ℕ
last_part path = after_last (λ b. b == 47) path

abbrev pub front_part : List ℕ → List ℕ
front_part path = take (length path - length (last_part path)) path

abbrev pub is_lua_file : List ℕ → Bool
is_lua_file file = ends_with nat_eq file (codes ".lua")

-- a target where its path is one, and else what is blamed
abbrev pub target : Dest → Bool → (file blamed : List ℕ) → Result Target (List ℕ)
target to is file blamed = if is then Ok (record { to = to; from = source file }) else Err blamed

abbrev pub item_target : Kind → (path file blamed : List ℕ) → Result Target (List ℕ)
item_target kind path file blamed = target (Item (record { kind = kind; path = path })) (is_path path) file blamed

-- Of a key and a file that don't make a path together: the file where its last part follows the front and another last
-- part would do, and else the key.
abbrev pub blamed_of : (front key file : List ℕ) → List ℕ
blamed_of front key file = if is_path (front ++ codes "x") then file else key

-- what a good key and a good file of `modules` mean: the path of the module, `init.lua` being a folder's own
abbrev pub module_target : (name file : List ℕ) → Result Target (List ℕ)
module_target name file =
    item_target Lua (module_path name (source file)) file
    (if is_init_file (source file) && not (is_init_module name)
    then blamed_of (slashed name ++ codes "/") name file
    else name)

-- The same of a named entry of `install.lua` and `install.lib`: a Lua file stands at the name's parts, also `init.lua`,
-- and another file at those parts with its own last part in place of theirs.
abbrev pub named_target : Kind → (name file : List ℕ) → Result Target (List ℕ)
named_target kind name file =
    if is_lua_file file
    then item_target kind (slashed name ++ codes ".lua") file name
    else item_target kind (front_part (slashed name) ++ last_part (source file)) file
    (blamed_of (front_part (slashed name)) name file)

-- a file in `conf/`
abbrev pub conf_target : (path file blamed : List ℕ) → Result Target (List ℕ)
conf_target path file blamed = target (Conf path) (is_path (codes "conf/" ++ path)) file blamed

-- what a file means that isn't named: it keeps its last part
abbrev pub unnamed : Listing → (file : List ℕ) → Result Target (List ℕ)
unnamed listings.Modules file = item_target Lua (last_part (source file)) file file
unnamed listings.Lua file = item_target Lua (last_part (source file)) file file
unnamed listings.Lib file = item_target Lib (last_part (source file)) file file
unnamed listings.Bin file = item_target Bin (last_part (source file)) file file
unnamed listings.Conf file = conf_target (last_part (source file)) file file

-- a key that is a text has a form: the name of a module, or a path
abbrev pub is_good_key : Listing → List ℕ → Bool
is_good_key listings.Modules key = is_module_name key
is_good_key listings.Lua key = is_module_name key
is_good_key listings.Lib key = is_module_name key
is_good_key listings.Bin key = is_path key
is_good_key listings.Conf key = is_path key

-- what a file means under such a key
abbrev pub named : Listing → (key file : List ℕ) → Result Target (List ℕ)
named listings.Modules key file = module_target key file
named listings.Lua key file = named_target Lua key file
named listings.Lib key file = named_target Lib key file
named listings.Bin key file = item_target Bin key file key
named listings.Conf key file = conf_target key file key

-- what an entry means, or which of its texts has no meaning: the key goes first, then the file as it is given, then
-- what they make together
abbrev pub meaning_at : Listing → Key → (file : List ℕ) → Result Target (List ℕ)
meaning_at listing (Text key) file =
    if not (is_good_key listing key) then Err key else (if is_source file then named listing key file else Err file)
meaning_at listing (Int n) file = if is_source file then unnamed listing file else Err file
meaning_at listing (Truth b) file = if is_source file then unnamed listing file else Err file
