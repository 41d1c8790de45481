-- Which texts are names and paths, a text being the list of its bytes. The forms and limits are this project's own.
use Rattle.std.specs.Prelude.{ℕ, Bool, ◌==◌, ◌&&◌, ◌||◌, not, nat_le, List, length, slice_index, codes, map}
use Rattle.std.specs.List.{list_all, slice_split}
use Rattle.std.specs.Char.{is_ascii_alphanumeric, is_ascii_digit, is_ascii_lowercase, to_ascii_lowercase}
use Rattle.std.specs.Str.{bytes_eq}
use Rattle.rocks_text.specs.declared.name.TheConstants.{LONGEST_NAME}
use Rattle.rocks_text.specs.declared.path.TheConstants.{FILE_PART, FILE_PATH, TREE_PART, TREE_PATH}

-- a byte that a name may have: `a` to `z`, a digit, `_`, `-` or `.`
abbrev pub is_name_byte : ℕ → Bool
is_name_byte b = is_ascii_lowercase b || is_ascii_digit b || b == 95 || b == 45 || b == 46

-- the name of a package: 1 to 60 such bytes that begin with a letter or digit, and not `manifest`
abbrev pub is_name : List ℕ → Bool
is_name text =
    nat_le 1 (length text) && nat_le (length text) LONGEST_NAME && is_ascii_alphanumeric (slice_index text 0)
    && list_all is_name_byte text && not (bytes_eq text (codes "manifest"))

-- the text with each of `A` to `Z` in lower case
abbrev pub lowered : List ℕ → List ℕ
lowered text = map to_ascii_lowercase text

-- a byte that a path's part may have: no control byte and no backslash
abbrev pub is_part_byte : ℕ → Bool
is_part_byte b = nat_le 32 b && not (b == 127) && not (b == 92)

-- the name of one file or folder: some bytes of that kind, at most so many, and neither `.` nor `..`
abbrev pub is_part : ℕ → List ℕ → Bool
is_part most part =
    nat_le 1 (length part) && nat_le (length part) most && list_all is_part_byte part
    && not (bytes_eq part (codes ".")) && not (bytes_eq part (codes ".."))

-- what stands between the slashes of a text
abbrev pub parts : List ℕ → List (List ℕ)
parts text = slice_split (λ b. b == 47) text

-- a relative path: parts of at most so many bytes, joined by `/`, and not too long as a whole
abbrev pub is_path : (longest_part longest : ℕ) → List ℕ → Bool
is_path longest_part longest text = nat_le (length text) longest && list_all (is_part longest_part) (parts text)

-- a path within a rock, a server or one of a tree's places
abbrev pub is_file_path : List ℕ → Bool
is_file_path text = is_path FILE_PART FILE_PATH text

-- a path within a tree
abbrev pub is_tree_path : List ℕ → Bool
is_tree_path text = is_path TREE_PART TREE_PATH text
