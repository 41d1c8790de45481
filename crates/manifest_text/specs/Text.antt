-- The text of a tree's manifest: five globals in the printed form of a table. (LuaRocks's tree manifest; that it has one
-- form is this project's own.)
use Rattle.std.specs.Prelude.{ℕ, suc, List, [], ◌∷◌, ◌++◌, codes, map, Option, Some, None}
use Rattle.lua_value.specs.declared.key.Key.TheVariants.{Int, Text}
use Rattle.lua_value.specs.Pairs.{Datum, Pairs, nil, truth_value, int_value, text_value, table_value, no_pairs, with_pair, put, value_at}
use Rattle.lua_print.specs.Printed.{globals_text}
use Rattle.rocks_constraint.specs.Printed.{printed}
use Rattle.rocks_constraint.specs.Wanted.{Wanted}
use Rattle.rocks_version.specs.declared.key.RockKey.{RockKey}
use Rattle.manifest_text.specs.declared.view.ManifestView.{ManifestView}
use Rattle.manifest_text.specs.declared.view.ViewRock.{ViewRock}

-- NAME/VERSION
abbrev pub key_text : RockKey → List ℕ
key_text key = key.name ++ (codes "/" ++ key.version)

-- values at the keys n, n + 1 and so on
abbrev pub numbered_from : ℕ → List Datum → Pairs
numbered_from n [] = no_pairs
numbered_from n (value ∷ values) = with_pair (Int n) value (numbered_from (suc n) values)

-- a list of values
abbrev pub list_of : List Datum → Pairs
list_of values = numbered_from 1 values

-- ---- which rocks have which items

abbrev pub keys_pairs : List RockKey → Pairs
keys_pairs keys = list_of (map (λ key. text_value (key_text key)) keys)

-- further paths, each with the rocks that have it
abbrev pub with_provided : List (List ℕ × List RockKey) → Pairs → Pairs
with_provided [] pairs = pairs
with_provided (path ∷ paths) pairs = with_provided paths (put (Text path.0) (table_value (keys_pairs path.1)) pairs)

abbrev pub provided_pairs : List (List ℕ × List RockKey) → Pairs
provided_pairs paths = with_provided paths no_pairs

-- ---- what stands at a name and a version

-- the table that a value is, or an empty one
abbrev pub table_in : Option Datum → Pairs
table_in (Some (table_value pairs)) = pairs
table_in (Some nil) = no_pairs
table_in (Some (truth_value b)) = no_pairs
table_in (Some (int_value n)) = no_pairs
table_in (Some (text_value bytes)) = no_pairs
table_in None = no_pairs

-- the value of a rock in the table of its name, at its version
abbrev pub put_rock : RockKey → Datum → Pairs → Pairs
put_rock key value pairs =
    put (Text key.name) (table_value (put (Text key.version) value (table_in (value_at (Text key.name) pairs)))) pairs

-- further rocks, each with a value
abbrev pub with_rocks : (ViewRock → Datum) → List ViewRock → Pairs → Pairs
with_rocks value [] pairs = pairs
with_rocks value (rock ∷ rocks) pairs = with_rocks value rocks (put_rock rock.key (value rock) pairs)

-- ---- what rocks need

-- the rock that meets a dependency, and the dependency as it is written
abbrev pub need_pairs : Wanted × RockKey → Pairs
need_pairs need =
    with_pair (Text (codes "met")) (text_value (key_text need.1))
    (with_pair (Text (codes "needs")) (text_value (printed need.0.name need.0.constraints)) no_pairs)

abbrev pub needs_pairs : List (Wanted × RockKey) → Pairs
needs_pairs needs = list_of (map (λ need. table_value (need_pairs need)) needs)

abbrev pub dependencies_of : List ViewRock → Pairs
dependencies_of rocks = with_rocks (λ rock. table_value (needs_pairs rock.dependencies)) rocks no_pairs

-- ---- that rocks are installed

abbrev pub installed : Pairs
installed = list_of (table_value (with_pair (Text (codes "arch")) (text_value (codes "installed")) no_pairs) ∷ [])

abbrev pub repository_of : List ViewRock → Pairs
repository_of rocks = with_rocks (λ rock. table_value installed) rocks no_pairs

-- ---- the manifest

-- the table of the globals `commands`, `dependencies`, `libs`, `modules` and `repository`
abbrev pub manifest_pairs : ManifestView → Pairs
manifest_pairs whole =
    with_pair (Text (codes "commands")) (table_value (provided_pairs whole.commands))
    (with_pair (Text (codes "dependencies")) (table_value (dependencies_of whole.rocks))
    (with_pair (Text (codes "libs")) (table_value (provided_pairs whole.libs))
    (with_pair (Text (codes "modules")) (table_value (provided_pairs whole.modules))
    (with_pair (Text (codes "repository")) (table_value (repository_of whole.rocks)) no_pairs))))

unfoldable pub manifest_text : ManifestView → List ℕ
manifest_text whole = globals_text (manifest_pairs whole)
