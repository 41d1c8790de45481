-- What is gathered of the lines of a text. No test is made of what stands around keys and texts, since the text is
-- compared with that of what was read. No public clause cites this.
use Rattle.std.specs.Prelude.{ℕ, ◌+◌, ◌-◌, ◌==◌, false, not, nat_eq, nat_lt, List, [], ◌∷◌, ◌++◌, codes, drop, length, slice_range, if◌then◌else◌}
use Rattle.std.specs.List.{ends_with, filter, prefix_len, slice_split, starts_with}
use Rattle.rock_manifest.specs.Reading.{path_in}
use Rattle.tree_manifest.specs.declared.groups.Depths.{Depths}
use Rattle.tree_manifest.specs.declared.groups.Gathered.{Gathered}
use Rattle.tree_manifest.specs.declared.groups.Group.{Group}

-- what stands between the line feeds
abbrev pub lines : List ℕ → List (List ℕ)
lines bytes = slice_split (λ b. b == 10) bytes

-- a text in the last group, if there is one
abbrev pub with_text : List ℕ → List Group → List Group
with_text text [] = []
with_text text (group ∷ []) = record group { texts = group.texts ++ text ∷ [] } ∷ []
with_text text (group ∷ next ∷ groups) = group ∷ with_text text (next ∷ groups)

-- what stands behind so many blanks, in the global that is asked for
abbrev pub with_inner : Depths → (blanks : ℕ) → List ℕ → Gathered → Gathered
with_inner depths blanks text gathered =
    if blanks == depths.text
    then record gathered { groups = with_text text gathered.groups }
    else (if starts_with nat_eq text (codes "}")
    then gathered
    else (if blanks == depths.head
    then record gathered { groups = gathered.groups ++ record { outer = gathered.outer; head = text; texts = [] } ∷ [] }
    else (if blanks == 3 then record gathered { outer = text } else gathered)))

-- a line that begins with so many blanks
abbrev pub with_blanks : (name : List ℕ) → Depths → Gathered → (line : List ℕ) → (blanks : ℕ) → Gathered
with_blanks name depths gathered line blanks =
    if blanks == 0
    then record gathered { inside = starts_with nat_eq line name }
    else (if not gathered.inside then gathered else with_inner depths blanks (drop blanks line) gathered)

abbrev pub with_line : (name : List ℕ) → Depths → Gathered → (line : List ℕ) → Gathered
with_line name depths gathered line = with_blanks name depths gathered line (prefix_len (λ b. b == 32) line)

abbrev pub with_lines : (name : List ℕ) → Depths → Gathered → List (List ℕ) → Gathered
with_lines name depths gathered [] = gathered
with_lines name depths gathered (line ∷ ls) = with_lines name depths (with_line name depths gathered line) ls

abbrev pub groups_under : (name : List ℕ) → Depths → (bytes : List ℕ) → List Group
groups_under name depths bytes =
    (with_lines name depths (record { inside = false; outer = []; groups = [] }) (lines bytes)).groups

-- the key of a line `KEY{` or `KEY{},`
unfoldable pub key_of : List ℕ → List ℕ
key_of line = path_in (slice_range line 0 (length line - (if ends_with nat_eq line (codes ",") then 3 else 1)))

-- the text of a line that has so many bytes before the quote: no text has a backslash, so each is one of an escape
unfoldable pub text_of : ℕ → List ℕ → List ℕ
text_of front line =
    if nat_lt (length line) (front + 3)
    then []
    else filter (λ b. not (b == 92)) (slice_range line (front + 1) (length line - 2))
