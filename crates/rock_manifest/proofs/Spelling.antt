-- The text of a record by its lines.
use Rattle.std.proofs.Common.{◌≡◌, ℕ, List, [], ◌∷◌, ◌++◌, refl, sym, ap, ◌∙◌, true, false, not, ◌==◌, codes, map, append_assoc, append-nil}
use Rattle.std.specs.List.{flat_map, list_all, All}
use Rattle.std.proofs.lemmas.Bool.{and_from, and_parts, cond_both, not-true}
use Rattle.std.proofs.lemmas.List.Concat.{flat_map-append}
use Rattle.std.proofs.lemmas.List.Elements.{All-nil, All-cons, All-head, All-tail}
use Rattle.std.proofs.lemmas.List.Folds.{list_all-append}
use Rattle.std.proofs.lemmas.List.Splits.{slice_split_at}
use Rattle.hex.specs.Hex.{encode_lower}
use Rattle.rocks_text.specs.Texts.{is_part_byte}
use Rattle.rocks_text.specs.declared.item.Item.{Item}
use Rattle.rocks_text.specs.declared.item.Kind.{Kind}
use Rattle.rocks_text.specs.declared.item.Kind.TheVariants.{Lua, Lib, Bin}
use Rattle.lua_names.specs.Names.{is_name}
use Rattle.lua_value.specs.declared.key.Key.{Key}
use Rattle.lua_value.specs.declared.key.Key.TheVariants.{Text}
use Rattle.lua_value.specs.Pairs.{table_value, keys}
use Rattle.lua_print.specs.Printed.{key_text, value_text, entries_text}
use Rattle.lua_print.specs.Quoted.{escaped, quoted}
use Rattle.rock_manifest.specs.declared.record.Record.{Record}
use Rattle.rock_manifest.specs.Lines.{file_line, files_text, table_lines}
use Rattle.rock_manifest.specs.Reading.{lines}
use Rattle.rock_manifest.specs.Records.{IsPath, IsDigest}
use Rattle.rock_manifest.specs.Text.{file_pairs, of_kind, record_text}
use Rattle.rock_manifest.proofs.Pieces.{has_no_feed, path_bytes, path_has_no_feed, escapes_have_no_feed, digits_quoted, digits_have_no_feed}

abbrev pub Files : Type 0
Files = List (List ℕ × List ℕ)

-- ---- the printed form, table by table

entries : (ks : List Key) (files : Files) → entries_text (codes "   ") ks (file_pairs files) ≡ files_text files
entries ks [] = refl
entries ks (file ∷ files) =
    append_assoc (codes "   " ++ key_text (Text file.0)) (quoted (encode_lower file.1))
    (44 ∷ 10 ∷ entries_text (codes "   ") ks (file_pairs files))
    ∙ append_assoc (codes "   ") (key_text (Text file.0))
    (quoted (encode_lower file.1) ++ 44 ∷ 10 ∷ entries_text (codes "   ") ks (file_pairs files))
    ∙ ap (λ (rest : List ℕ). codes "   " ++
    (key_text (Text file.0) ++ (quoted (encode_lower file.1) ++ 44 ∷ 10 ∷ rest))) (entries ks files)
    ∙ sym (
    append_assoc (codes "   ") (key_text (Text file.0) ++ (quoted (encode_lower file.1) ++ codes ",\n"))
    (files_text files)
    ∙ ap (λ (rest : List ℕ). codes "   " ++ rest) (
    append_assoc (key_text (Text file.0)) (quoted (encode_lower file.1) ++ codes ",\n") (files_text files)
    ∙ ap (λ (rest : List ℕ). key_text (Text file.0) ++ rest)
    (append_assoc (quoted (encode_lower file.1)) (codes ",\n") (files_text files))
    )
    )

braces : (name text rest : List ℕ) → name ++ codes " = " ++ (codes "{" ++ 10 ∷ text ++ [] ++ codes "}") ++ 10 ∷ rest
    ≡ (name ++ (codes " = {\n" ++ (text ++ codes "}\n"))) ++ rest
braces name text rest = simp append_assoc

-- a global of a record
table : (name : List ℕ) (files : Files) (rest : List ℕ)
    → name ++ codes " = " ++ value_text [] (table_value (file_pairs files)) ++ 10 ∷ rest
    ≡ table_lines name (files_text files) ++ rest
table name [] rest = simp append_assoc
table name (file ∷ files) rest =
    ap (λ (text : List ℕ). name ++ codes " = " ++ (codes "{" ++ 10 ∷ text ++ [] ++ codes "}") ++ 10 ∷ rest)
    (entries (keys (file_pairs (file ∷ files))) (file ∷ files))
    ∙ braces name (files_text (file ∷ files)) rest

pub text_of_tables : (whole : Record) → record_text whole
    ≡ table_lines (codes "bin") (files_text (of_kind Bin whole.items))
    ++ (table_lines (codes "lib") (files_text (of_kind Lib whole.items))
    ++ (table_lines (codes "lua") (files_text (of_kind Lua whole.items)) ++ table_lines (codes "own")
    (files_text whole.own)))
unfolding record_text
text_of_tables whole =
    let bin = of_kind Bin whole.items in
    let lib = of_kind Lib whole.items in
    let lua = of_kind Lua whole.items in
    let own = whole.own in
    let on : List ℕ → List ℕ = λ (rest : List ℕ). table_lines (codes "bin") (files_text bin) ++ rest in
    let in' : List ℕ → List ℕ = λ (rest : List ℕ). table_lines (codes "lib") (files_text lib) ++ rest in
    let at : List ℕ → List ℕ = λ (rest : List ℕ). table_lines (codes "lua") (files_text lua) ++ rest in
    table (codes "bin") bin _
    ∙ ap on (table (codes "lib") lib _
    ∙ ap in' (table (codes "lua") lua _ ∙ ap at (table (codes "own") own [] ∙ append-nil _)))

-- the globals, one behind another
pub record_printed : (whole : Record) (items : List (Item × List ℕ)) (own start bin lib lua text : List ℕ)
    → items ≡ whole.items → own ≡ files_text whole.own
    → start ≡ []
    → bin ≡ start ++ table_lines (codes "bin") (files_text (of_kind Bin items))
    → lib ≡ bin ++ table_lines (codes "lib") (files_text (of_kind Lib items))
    → lua ≡ lib ++ table_lines (codes "lua") (files_text (of_kind Lua items))
    → text ≡ lua ++ table_lines (codes "own") own
    → text ≡ record_text whole
record_printed whole items own start bin lib lua text is_items is_own e0 e1 e2 e3 e4 =
    let part : Kind → List ℕ → List (Item × List ℕ)
    → List ℕ = λ (kind : Kind) (name : List ℕ) (l : List (Item × List ℕ)). table_lines name
    (files_text (of_kind kind l)) in
    let last = table_lines (codes "own") (files_text whole.own) in
    let first = part Bin (codes "bin") whole.items in
    let second = part Lib (codes "lib") whole.items in
    let third = part Lua (codes "lua") whole.items in
    let to_bin : bin ≡ first = e1 ∙ ap (λ (t : List ℕ). t ++ part Bin (codes "bin") items) e0
    ∙ ap (part Bin (codes "bin")) is_items in
    let to_lib : lib ≡ first ++ second = e2 ∙ ap (λ (t : List ℕ). t ++ part Lib (codes "lib") items) to_bin
    ∙ ap (λ l. first ++ part Lib (codes "lib") l) is_items in
    let to_lua : lua ≡ first ++ second ++ third = e3 ∙ ap (λ (t : List ℕ). t ++ part Lua (codes "lua") items) to_lib
    ∙ ap (λ l. first ++ second ++ part Lua (codes "lua") l) is_items in
    e4 ∙ ap (λ (t : List ℕ). t ++ table_lines (codes "own") own) to_lua
    ∙ ap (λ (t : List ℕ). first ++ second ++ third ++ table_lines (codes "own") t) is_own
    ∙ append_assoc (first ++ second) third last
    ∙ append_assoc first second (third ++ last)
    ∙ sym (text_of_tables whole)

-- ---- the lines

-- lines with a line feed behind each
abbrev pub lined : List (List ℕ) → List ℕ
lined ls = flat_map (λ line. line ++ 10 ∷ []) ls

abbrev pub bare_line : List ℕ × List ℕ → List ℕ
bare_line file = codes "   " ++ (key_text (Text file.0) ++ (quoted (encode_lower file.1) ++ codes ","))

-- the lines of a global of a record
abbrev pub table_of : (name : List ℕ) → Files → List (List ℕ)
table_of name [] = (name ++ codes " = {}") ∷ []
table_of name (file ∷ files) = (name ++ codes " = {") ∷ (map bare_line (file ∷ files) ++ codes "}" ∷ [])

abbrev pub record_lines : Record → List (List ℕ)
record_lines whole =
    table_of (codes "bin") (of_kind Bin whole.items)
    ++ (table_of (codes "lib") (of_kind Lib whole.items)
    ++ (table_of (codes "lua") (of_kind Lua whole.items) ++ table_of (codes "own") whole.own))

closed : (key digest : List ℕ) → (codes "   " ++ (key ++ (digest ++ codes ","))) ++ 10 ∷ []
    ≡ codes "   " ++ (key ++ (digest ++ codes ",\n"))
closed key digest = simp append_assoc

lined_files : (files : Files) → lined (map bare_line files) ≡ files_text files
lined_files [] = refl
lined_files (file ∷ files) =
    ap (λ (line : List ℕ). line ++ lined (map bare_line files))
    (closed (key_text (Text file.0)) (quoted (encode_lower file.1)))
    ∙ ap (λ (rest : List ℕ). file_line file ++ rest) (lined_files files)

opened : (name text : List ℕ) → ((name ++ codes " = {") ++ 10 ∷ []) ++ (text ++ ((codes "}" ++ 10 ∷ []) ++ []))
    ≡ name ++ (codes " = {\n" ++ (text ++ codes "}\n"))
opened name text = simp (append_assoc, append-nil)

lined_table : (name : List ℕ) (files : Files) → lined (table_of name files) ≡ table_lines name (files_text files)
lined_table name [] = simp (append_assoc, append-nil)
lined_table name (file ∷ files) =
    ap (λ (rest : List ℕ). ((name ++ codes " = {") ++ 10 ∷ []) ++ rest) (
    flat_map-append (λ line. line ++ 10 ∷ []) (map bare_line (file ∷ files)) (codes "}" ∷ [])
    ∙ ap (λ (text : List ℕ). text ++ ((codes "}" ++ 10 ∷ []) ++ [])) (lined_files (file ∷ files))
    )
    ∙ opened name (files_text (file ∷ files))

joined : (front back : List (List ℕ)) (text rest : List ℕ) → lined front ≡ text → lined back ≡ rest
    → lined (front ++ back) ≡ text ++ rest
joined front back text rest e f = flat_map-append (λ line. line ++ 10 ∷ []) front back
    ∙ ap (λ (t : List ℕ). t ++ lined back) e ∙ ap (λ (t : List ℕ). text ++ t) f

pub text_of_lines : (whole : Record) → record_text whole ≡ lined (record_lines whole)
text_of_lines whole =
    text_of_tables whole
    ∙ sym (
    joined _ _ _ _ (lined_table (codes "bin") (of_kind Bin whole.items))
    (joined _ _ _ _ (lined_table (codes "lib") (of_kind Lib whole.items))
    (joined _ _ _ _ (lined_table (codes "lua") (of_kind Lua whole.items)) (lined_table (codes "own") whole.own)))
    )

-- ---- no line feed is in a line

-- a path and a digest
abbrev pub IsFile : List ℕ × List ℕ → Type 0
IsFile file = IsPath file.0 × IsDigest file.1

no_feeds : (front back : List ℕ) → has_no_feed front ≡ true → has_no_feed back ≡ true
    → has_no_feed (front ++ back) ≡ true
no_feeds front back f b = list_all-append (λ c. not (c == 10)) front back ∙ and_from _ _ f b

key_has_no_feed : (path : List ℕ) → list_all is_part_byte path ≡ true → has_no_feed (key_text (Text path)) ≡ true
key_has_no_feed path bytes =
    cond_both (is_name path) (path ++ codes " = ") (codes "[" ++ quoted path ++ codes "] = ")
    (λ key. has_no_feed key ≡ true)
    (λ _. no_feeds path (codes " = ") (path_has_no_feed path bytes) refl)
    (λ _. no_feeds (codes "[" ++ quoted path) (codes "] = ")
    (no_feeds (flat_map escaped path) (34 ∷ []) (escapes_have_no_feed path bytes) refl) refl)

line_has_no_feed : (file : List ℕ × List ℕ) → IsFile file → has_no_feed (bare_line file) ≡ true
line_has_no_feed file is =
    let digest : has_no_feed (quoted (encode_lower file.1)) ≡ true =
    ap has_no_feed (digits_quoted file.1 is.1)
    ∙ no_feeds (encode_lower file.1) (34 ∷ []) (digits_have_no_feed file.1 is.1) refl in
    no_feeds (key_text (Text file.0)) (quoted (encode_lower file.1) ++ codes ",")
    (key_has_no_feed file.0 (path_bytes file.0 is.0.0))
    (no_feeds (quoted (encode_lower file.1)) (codes ",") digest refl)

lines_have_no_feeds : (files : Files) → All IsFile files → list_all has_no_feed (map bare_line files) ≡ true
lines_have_no_feeds [] all = refl
lines_have_no_feeds (file ∷ files) all =
    and_from _ _ (line_has_no_feed file (All-head IsFile file files all))
    (lines_have_no_feeds files (All-tail IsFile file files all))

table_has_no_feeds : (name : List ℕ) (files : Files) → has_no_feed name ≡ true → All IsFile files
    → list_all has_no_feed (table_of name files) ≡ true
table_has_no_feeds name [] plain all = and_from _ _ (no_feeds name (codes " = {}") plain refl) refl
table_has_no_feeds name (file ∷ files) plain all =
    and_from _ _ (no_feeds name (codes " = {") plain refl)
    (list_all-append has_no_feed (map bare_line (file ∷ files)) (codes "}" ∷ [])
    ∙ and_from _ _ (lines_have_no_feeds (file ∷ files) all) refl)

both_have_none : (front back : List (List ℕ)) → list_all has_no_feed front ≡ true → list_all has_no_feed back ≡ true
    → list_all has_no_feed (front ++ back) ≡ true
both_have_none front back f b = list_all-append has_no_feed front back ∙ and_from _ _ f b

each_differs : (line : List ℕ) → has_no_feed line ≡ true → All (λ b. (b == 10) ≡ false) line
each_differs [] all = All-nil (λ b. (b == 10) ≡ false)
each_differs (b ∷ line) all =
    let h = and_parts (not (b == 10)) (has_no_feed line) all in
    All-cons (λ b. (b == 10) ≡ false) b line (not-true (b == 10) h.0) (each_differs line h.1)

split : (ls : List (List ℕ)) → list_all has_no_feed ls ≡ true → lines (lined ls) ≡ ls ++ [] ∷ []
split [] all = refl
split (line ∷ ls) all =
    let h = and_parts (has_no_feed line) (list_all has_no_feed ls) all in
    ap lines (append_assoc line (10 ∷ []) (lined ls))
    ∙ slice_split_at (λ b. b == 10) line 10 (lined ls) (each_differs line h.0) refl
    ∙ ap (λ (rest : List (List ℕ)). line ∷ rest) (split ls h.1)

-- the lines of the text of items and files that are such
pub lines_of_text : (whole : Record) → ((kind : Kind) → All IsFile (of_kind kind whole.items)) → All IsFile whole.own
    → lines (record_text whole) ≡ record_lines whole ++ [] ∷ []
lines_of_text whole items own =
    let bin = table_of (codes "bin") (of_kind Bin whole.items) in
    let lib = table_of (codes "lib") (of_kind Lib whole.items) in
    let lua = table_of (codes "lua") (of_kind Lua whole.items) in
    let others = table_of (codes "own") whole.own in
    ap lines (text_of_lines whole)
    ∙ split (record_lines whole) (
    both_have_none bin (lib ++ (lua ++ others))
    (table_has_no_feeds (codes "bin") (of_kind Bin whole.items) refl (items Bin))
    (both_have_none lib (lua ++ others) (table_has_no_feeds (codes "lib") (of_kind Lib whole.items) refl (items Lib))
    (both_have_none lua others (table_has_no_feeds (codes "lua") (of_kind Lua whole.items) refl (items Lua))
    (table_has_no_feeds (codes "own") whole.own refl own)))
    )
