-- A printed table by its lines.
use Rattle.std.proofs.Common.{◌≡◌, ℕ, List, [], ◌∷◌, ◌++◌, refl, sym, ap, ◌∙◌, true, false, not, ◌==◌, codes, append_assoc, append-nil}
use Rattle.std.specs.Fmt.{decimal}
use Rattle.std.specs.List.{list_all, All}
use Rattle.std.proofs.lemmas.Bool.{and_parts, not-true}
use Rattle.std.proofs.lemmas.List.Concat.{flat_map-append}
use Rattle.std.proofs.lemmas.List.Elements.{All-nil, All-cons}
use Rattle.std.proofs.lemmas.List.Splits.{slice_split_at}
use Rattle.lua_value.specs.declared.key.Key.{Key}
use Rattle.lua_value.specs.Pairs.{Datum, Pairs, nil, truth_value, int_value, text_value, table_value, no_pairs, with_pair, keys}
use Rattle.lua_print.specs.Printed.{braced, deeper, entries_text, entry_key_text, truth_text, value_text}
use Rattle.lua_print.specs.Quoted.{quoted}
use Rattle.rock_manifest.proofs.Pieces.{has_no_feed}
use Rattle.rock_manifest.proofs.Spelling.{lined}
use Rattle.tree_manifest.specs.Reading.{lines}

-- ---- the lines of tables

-- a table whose entries have those lines, behind the front of its first line
abbrev pub braced_lines : (indent front : List ℕ) → List Key → List (List ℕ) → List (List ℕ)
braced_lines indent front [] ls = (front ++ codes "{},") ∷ []
braced_lines indent front (key ∷ ks) ls = (front ++ codes "{") ∷ (ls ++ (indent ++ codes "},") ∷ [])

abbrev mutual
  pub value_lines : (indent front : List ℕ) → Datum → List (List ℕ)
  value_lines indent front nil = (front ++ codes "nil,") ∷ []
  value_lines indent front (truth_value b) = (front ++ (truth_text b ++ codes ",")) ∷ []
  value_lines indent front (int_value n) = (front ++ (decimal n ++ codes ",")) ∷ []
  value_lines indent front (text_value bytes) = (front ++ (quoted bytes ++ codes ",")) ∷ []
  value_lines indent front (table_value ps) =
      braced_lines indent front (keys ps) (entries_lines (deeper indent) (keys ps) ps)

  pub entries_lines : List ℕ → List Key → Pairs → List (List ℕ)
  entries_lines indent ks no_pairs = []
  entries_lines indent ks (with_pair key value rest) =
      value_lines indent (indent ++ entry_key_text ks key) value ++ entries_lines indent ks rest

-- a global whose table has entries of those lines
abbrev pub closed_section : (name : List ℕ) → List Key → List (List ℕ) → List (List ℕ)
closed_section name [] ls = (name ++ codes " = {}") ∷ []
closed_section name (key ∷ ks) ls = (name ++ codes " = {") ∷ (ls ++ codes "}" ∷ [])

abbrev pub section_lines : (name : List ℕ) → Pairs → List (List ℕ)
section_lines name ps = closed_section name (keys ps) (entries_lines (codes "   ") (keys ps) ps)

-- ---- they spell what is printed

pub lined_both : (front back : List (List ℕ)) → lined (front ++ back) ≡ lined front ++ lined back
lined_both front back = flat_map-append (λ line. line ++ 10 ∷ []) front back

one_line : (front text : List ℕ) → lined ((front ++ (text ++ codes ",")) ∷ []) ≡ front ++ (text ++ 44 ∷ 10 ∷ [])
one_line front text = simp (append_assoc, append-nil)

opened : (indent front text : List ℕ)
    → ((front ++ codes "{") ++ 10 ∷ []) ++ (text ++ (((indent ++ codes "},") ++ 10 ∷ []) ++ []))
    ≡ front ++ ((codes "{" ++ 10 ∷ text ++ indent ++ codes "}") ++ 44 ∷ 10 ∷ [])
opened indent front text = simp (append_assoc, append-nil)

braced_lined : (indent front : List ℕ) (ks : List Key) (ls : List (List ℕ)) (text : List ℕ) → lined ls ≡ text
    → lined (braced_lines indent front ks ls) ≡ front ++ (braced indent ks text ++ 44 ∷ 10 ∷ [])
braced_lined indent front [] ls text e = one_line front (codes "{}")
braced_lined indent front (key ∷ ks) ls text e =
    ap (λ (t : List ℕ). ((front ++ codes "{") ++ 10 ∷ []) ++ t) (lined_both ls ((indent ++ codes "},") ∷ []))
    ∙ ap (λ (t : List ℕ). ((front ++ codes "{") ++ 10 ∷ []) ++ (t ++ (((indent ++ codes "},") ++ 10 ∷ []) ++ []))) e
    ∙ opened indent front text

regroup : (indent key value rest : List ℕ)
    → ((indent ++ key) ++ (value ++ 44 ∷ 10 ∷ [])) ++ rest ≡ indent ++ key ++ value ++ 44 ∷ 10 ∷ rest
regroup indent key value rest = simp append_assoc

mutual
  value_lined : (indent front : List ℕ) (value : Datum)
      → lined (value_lines indent front value) ≡ front ++ (value_text indent value ++ 44 ∷ 10 ∷ [])
  value_lined indent front nil = one_line front (codes "nil")
  value_lined indent front (truth_value b) = one_line front (truth_text b)
  value_lined indent front (int_value n) = one_line front (decimal n)
  value_lined indent front (text_value bytes) = one_line front (quoted bytes)
  value_lined indent front (table_value ps) =
      braced_lined indent front (keys ps) (entries_lines (deeper indent) (keys ps) ps) _
      (entries_lined (deeper indent) (keys ps) ps)

  entries_lined : (indent : List ℕ) (ks : List Key) (ps : Pairs)
      → lined (entries_lines indent ks ps) ≡ entries_text indent ks ps
  entries_lined indent ks no_pairs = refl
  entries_lined indent ks (with_pair key value rest) =
      lined_both (value_lines indent (indent ++ entry_key_text ks key) value) (entries_lines indent ks rest)
      ∙ ap (λ (t : List ℕ). t ++ lined (entries_lines indent ks rest))
      (value_lined indent (indent ++ entry_key_text ks key) value)
      ∙ ap (λ (t : List ℕ). ((indent ++ entry_key_text ks key) ++ (value_text indent value ++ 44 ∷ 10 ∷ [])) ++ t)
      (entries_lined indent ks rest)
      ∙ regroup indent (entry_key_text ks key) (value_text indent value) (entries_text indent ks rest)

section_opened : (name text rest : List ℕ) → name ++ codes " = " ++ (codes "{" ++ 10 ∷ text ++ [] ++ codes "}") ++ 10 ∷ rest
    ≡ (((name ++ codes " = {") ++ 10 ∷ []) ++ (text ++ ((codes "}" ++ 10 ∷ []) ++ []))) ++ rest
section_opened name text rest = simp (append_assoc, append-nil)

section_closed : (name rest : List ℕ) → name ++ codes " = " ++ codes "{}" ++ 10 ∷ rest
    ≡ (((name ++ codes " = {}") ++ 10 ∷ []) ++ []) ++ rest
section_closed name rest = simp (append_assoc, append-nil)

section_of : (name : List ℕ) (ks : List Key) (ls : List (List ℕ)) (text rest : List ℕ) → lined ls ≡ text
    → name ++ codes " = " ++ braced [] ks text ++ 10 ∷ rest ≡ lined (closed_section name ks ls) ++ rest
section_of name [] ls text rest e = section_closed name rest
section_of name (key ∷ ks) ls text rest e =
    section_opened name text rest
    ∙ ap (λ (t : List ℕ). (((name ++ codes " = {") ++ 10 ∷ []) ++ (t ++ ((codes "}" ++ 10 ∷ []) ++ []))) ++ rest) (sym e)
    ∙ ap (λ (t : List ℕ). (((name ++ codes " = {") ++ 10 ∷ []) ++ t) ++ rest) (sym (lined_both ls (codes "}" ∷ [])))

pub section_lined : (name : List ℕ) (ps : Pairs) (rest : List ℕ)
    → name ++ codes " = " ++ value_text [] (table_value ps) ++ 10 ∷ rest ≡ lined (section_lines name ps) ++ rest
section_lined name ps rest =
    section_of name (keys ps) (entries_lines (codes "   ") (keys ps) ps) (entries_text (codes "   ") (keys ps) ps) rest
    (entries_lined (codes "   ") (keys ps) ps)

-- ---- the lines again

each_differs : (line : List ℕ) → has_no_feed line ≡ true → All (λ b. (b == 10) ≡ false) line
each_differs [] all = All-nil (λ b. (b == 10) ≡ false)
each_differs (b ∷ line) all =
    let h = and_parts (not (b == 10)) (has_no_feed line) all in
    All-cons (λ b. (b == 10) ≡ false) b line (not-true (b == 10) h.0) (each_differs line h.1)

pub split : (ls : List (List ℕ)) → list_all has_no_feed ls ≡ true → lines (lined ls) ≡ ls ++ [] ∷ []
split [] all = refl
split (line ∷ ls) all =
    let h = and_parts (has_no_feed line) (list_all has_no_feed ls) all in
    ap lines (append_assoc line (10 ∷ []) (lined ls))
    ∙ slice_split_at (λ b. b == 10) line 10 (lined ls) (each_differs line h.0) refl
    ∙ ap (λ (rest : List (List ℕ)). line ∷ rest) (split ls h.1)
