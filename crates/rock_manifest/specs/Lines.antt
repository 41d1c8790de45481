-- The lines of a record's text. (This project's own.) No public clause cites them.
use Rattle.std.specs.Prelude.{ℕ, List, [], ◌∷◌, ◌++◌, codes}
use Rattle.std.specs.List.{flat_map}
use Rattle.hex.specs.Hex.{encode_lower}
use Rattle.lua_print.specs.Printed.{key_text}
use Rattle.lua_print.specs.Quoted.{quoted}
use Rattle.lua_value.specs.declared.key.Key.TheVariants.{Text}

-- three blanks, the path as a key, the digest between quotes and a comma
abbrev pub file_line : List ℕ × List ℕ → List ℕ
file_line file = codes "   " ++ (key_text (Text file.0) ++ (quoted (encode_lower file.1) ++ codes ",\n"))

abbrev pub files_text : List (List ℕ × List ℕ) → List ℕ
files_text files = flat_map file_line files

-- a global with a table of such lines
abbrev pub table_lines : (name text : List ℕ) → List ℕ
table_lines name [] = name ++ codes " = {}\n"
table_lines name (b ∷ bs) = name ++ (codes " = {\n" ++ ((b ∷ bs) ++ codes "}\n"))
