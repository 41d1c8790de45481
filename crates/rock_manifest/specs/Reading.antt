-- What bytes would say if they were the text of a record. They are read line by line with no test of what stands around
-- paths and digests, since they are compared with the text of what was read. No public clause cites this.
use Rattle.std.specs.Prelude.{ℕ, ◌-◌, Bool, false, nat_eq, ◌==◌, ◌&&◌, not, nat_le, nat_lt, List, [], ◌∷◌, ◌++◌, length, map, slice_index, slice_range, codes, if◌then◌else◌, Option, Some, None, Result, Ok, Err}
use Rattle.std.specs.List.{filter, slice_split, starts_with}
use Rattle.std.specs.Option.{option_to_list}
use Rattle.std.specs.Str.{is_utf8}
use Rattle.hex.specs.Hex.{decode_sized}
use Rattle.hex.specs.declared.error.FromHexError.{FromHexError}
use Rattle.rocks_text.specs.Texts.{is_file_path}
use Rattle.rocks_text.specs.declared.item.Item.{Item}
use Rattle.rocks_text.specs.declared.item.Kind.{Kind}
use Rattle.rocks_text.specs.declared.item.Kind.TheVariants.{Lua, Lib, Bin}
use Rattle.rock_manifest.specs.declared.record.Record.{Record}

-- the path of a key `["PATH"] = ` or `PATH = `; a path has no backslash, so each is one of an escape
unfoldable pub path_in : List ℕ → List ℕ
path_in key =
    if nat_le 7 (length key) && slice_index key 0 == 91
    then filter (λ b. not (b == 92)) (slice_range key 2 (length key - 5))
    else slice_range key 0 (length key - 3)

-- the file of that path and that digest, if they are such
abbrev pub file_from : List ℕ → Result (List ℕ) FromHexError → Option (List ℕ × List ℕ)
file_from path (Ok digest) = if is_utf8 path && is_file_path path then Some (path, digest) else None
file_from path (Err e) = None

-- the file of a line: three blanks, the key, a quote, 32 digits, a quote and a comma
unfoldable pub file_in : List ℕ → Option (List ℕ × List ℕ)
file_in line =
    if nat_lt (length line) 38
    then None
    else file_from (path_in (slice_range line 3 (length line - 35)))
    (decode_sized (slice_range line (length line - 34) (length line - 2)) 16)

-- the files of the lines that begin with a blank, where the last line before them that doesn't begins with the name
abbrev pub files_under : List ℕ → Bool → List (List ℕ) → List (List ℕ × List ℕ)
files_under name inside [] = []
files_under name inside (line ∷ lines) =
    if starts_with nat_eq line (codes " ")
    then (if inside then option_to_list (file_in line) else []) ++ files_under name inside lines
    else files_under name (starts_with nat_eq line name) lines

-- what stands between the line feeds
abbrev pub lines : List ℕ → List (List ℕ)
lines bytes = slice_split (λ b. b == 10) bytes

-- files as items of a kind
abbrev pub as_items : Kind → List (List ℕ × List ℕ) → List (Item × List ℕ)
as_items kind files = map (λ file. (record { kind = kind; path = file.0 }, file.1)) files

unfoldable pub record_in : List ℕ → Record
record_in bytes = record {
  items =
      as_items Lua (files_under (codes "lua") false (lines bytes))
      ++ as_items Lib (files_under (codes "lib") false (lines bytes))
      ++ as_items Bin (files_under (codes "bin") false (lines bytes));
  own = files_under (codes "own") false (lines bytes);
}
