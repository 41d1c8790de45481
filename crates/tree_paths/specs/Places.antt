-- Where the files of rocks stand in a tree (LuaRocks: file locations; the places are those for Lua 5.4).
use Rattle.std.specs.Prelude.{ℕ, ◌==◌, ◌||◌, if◌then◌else◌, List, ◌++◌, map, codes}
use Rattle.rocks_text.specs.declared.item.Item.{Item}
use Rattle.rocks_text.specs.declared.item.Kind.{Kind}
use Rattle.rocks_text.specs.declared.item.Kind.TheVariants.{Lua, Lib, Bin}
use Rattle.rocks_version.specs.declared.key.RockKey.{RockKey}

-- the folder for the items of a kind
abbrev pub place_of : Kind → List ℕ
place_of Lua = codes "share/lua/5.4/"
place_of Lib = codes "lib/lua/5.4/"
place_of Bin = codes "bin/"

-- where an item stands that one rock alone has
abbrev pub plain_path : Item → List ℕ
plain_path item = place_of item.kind ++ item.path

-- `-` and `.` become `_`
abbrev pub flat_byte : ℕ → ℕ
flat_byte b = if b == 45 || b == 46 then 95 else b

-- NAME_VERSION with each `-` and `.` as `_`
abbrev pub flat_name : RockKey → List ℕ
flat_name key = map flat_byte (key.name ++ (codes "_" ++ key.version))

-- where an item stands that is a rock's own beside that of another: NAME_VERSION and `-` before the path
abbrev pub versioned_path : Item → RockKey → List ℕ
versioned_path item key = place_of item.kind ++ (flat_name key ++ (codes "-" ++ item.path))

-- the folder of a rock's own files, with its slash
abbrev pub rock_folder : (name version : List ℕ) → List ℕ
rock_folder name version = codes "lib/luarocks/rocks-5.4/" ++ (name ++ (codes "/" ++ (version ++ codes "/")))

-- where a rock's own file stands
abbrev pub own_path : RockKey → List ℕ → List ℕ
own_path key path = rock_folder key.name key.version ++ path
