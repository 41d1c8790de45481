-- The text of a record: four globals in the printed form of a table. (LuaRocks's `rock_manifest`; that it has one form
-- is this project's own.)
use Rattle.std.specs.Prelude.{ℕ, Bool, ◌==◌, List, [], ◌∷◌, codes, map}
use Rattle.std.specs.List.{filter}
use Rattle.hex.specs.Hex.{encode_lower}
use Rattle.rocks_text.specs.Items.{rank_of}
use Rattle.rocks_text.specs.declared.item.Item.{Item}
use Rattle.rocks_text.specs.declared.item.Kind.{Kind}
use Rattle.rocks_text.specs.declared.item.Kind.TheVariants.{Lua, Lib, Bin}
use Rattle.lua_value.specs.declared.key.Key.TheVariants.{Text}
use Rattle.lua_value.specs.Pairs.{Pairs, text_value, table_value, no_pairs, with_pair}
use Rattle.lua_print.specs.Printed.{globals_text}
use Rattle.rock_manifest.specs.declared.record.Record.{Record}

abbrev pub is_kind : Kind → Kind → Bool
is_kind kind other = rank_of kind == rank_of other

-- the paths of the items of one kind, with their digests
abbrev pub of_kind : Kind → List (Item × List ℕ) → List (List ℕ × List ℕ)
of_kind kind items = map (λ file. (file.0.path, file.1)) (filter (λ file. is_kind file.0.kind kind) items)

-- a table that maps each path to its digest in lower case hexadecimal digits
abbrev pub file_pairs : List (List ℕ × List ℕ) → Pairs
file_pairs [] = no_pairs
file_pairs (file ∷ files) = with_pair (Text file.0) (text_value (encode_lower file.1)) (file_pairs files)

-- the table of the globals `bin`, `lib`, `lua` and `own`
abbrev pub record_pairs : Record → Pairs
record_pairs whole =
    with_pair (Text (codes "bin")) (table_value (file_pairs (of_kind Bin whole.items)))
    (with_pair (Text (codes "lib")) (table_value (file_pairs (of_kind Lib whole.items)))
    (with_pair (Text (codes "lua")) (table_value (file_pairs (of_kind Lua whole.items)))
    (with_pair (Text (codes "own")) (table_value (file_pairs whole.own)) no_pairs)))

unfoldable pub record_text : Record → List ℕ
record_text whole = globals_text (record_pairs whole)
