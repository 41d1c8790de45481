-- Tables whose lines have no line feed, and what the lines in them begin with.
use Rattle.std.proofs.Common.{◌≡◌, ℕ, List, [], ◌∷◌, ◌++◌, refl, true, false, Bool, ◌==◌, not, codes}
use Rattle.std.specs.List.{flat_map, list_all}
use Rattle.std.proofs.lemmas.Bool.{and_from, cond_both}
use Rattle.std.proofs.lemmas.List.Folds.{list_all-append}
use Rattle.std.proofs.Common.{◌∙◌}
use Rattle.lua_names.specs.Names.{is_name}
use Rattle.lua_value.specs.declared.key.Key.{Key}
use Rattle.lua_value.specs.declared.key.Key.TheVariants.{Text}
use Rattle.lua_value.specs.Pairs.{Datum, Pairs, nil, truth_value, int_value, text_value, table_value, no_pairs, with_pair, keys}
use Rattle.lua_print.specs.Printed.{deeper, entry_key_text, key_text, truth_text}
use Rattle.lua_print.specs.Quoted.{escaped, quoted}
use Rattle.rocks_text.specs.Texts.{is_part_byte}
use Rattle.rock_manifest.proofs.Pieces.{has_no_feed, escapes_have_no_feed, path_has_no_feed}
use Rattle.tree_manifest.proofs.Lined.{braced_lines, closed_section, entries_lines, section_lines, value_lines}

-- ---- no line feed

abbrev mutual
  -- texts have no control byte, and what is printed of keys has no line feed
  pub IsPlain : Datum → Type 0
  IsPlain nil = Unit {0}
  IsPlain (truth_value b) = Unit {0}
  IsPlain (int_value n) = ⊥
  IsPlain (text_value bytes) = list_all is_part_byte bytes ≡ true
  IsPlain (table_value ps) = ArePlain (keys ps) ps

  pub ArePlain : List Key → Pairs → Type 0
  ArePlain ks no_pairs = Unit {0}
  ArePlain ks (with_pair key value rest) =
      (has_no_feed (entry_key_text ks key) ≡ true) × IsPlain value × ArePlain ks rest

pub no_feeds : (front back : List ℕ) → has_no_feed front ≡ true → has_no_feed back ≡ true
    → has_no_feed (front ++ back) ≡ true
no_feeds front back f b = list_all-append (λ c. not (c == 10)) front back ∙ and_from _ _ f b

pub both_have_none : (front back : List (List ℕ)) → list_all has_no_feed front ≡ true → list_all has_no_feed back ≡ true
    → list_all has_no_feed (front ++ back) ≡ true
both_have_none front back f b = list_all-append has_no_feed front back ∙ and_from _ _ f b

quoted_has_none : (text : List ℕ) → list_all is_part_byte text ≡ true → has_no_feed (quoted text) ≡ true
quoted_has_none text bytes = no_feeds (flat_map escaped text) (34 ∷ []) (escapes_have_no_feed text bytes) refl

pub key_has_no_feed : (key : List ℕ) → list_all is_part_byte key ≡ true → has_no_feed (key_text (Text key)) ≡ true
key_has_no_feed key bytes =
    cond_both (is_name key) (key ++ codes " = ") (codes "[" ++ quoted key ++ codes "] = ")
    (λ text. has_no_feed text ≡ true)
    (λ _. no_feeds key (codes " = ") (path_has_no_feed key bytes) refl)
    (λ _. no_feeds (codes "[" ++ quoted key) (codes "] = ") (quoted_has_none key bytes) refl)

truth_has_none : (b : Bool) → has_no_feed (truth_text b ++ codes ",") ≡ true
truth_has_none true = refl
truth_has_none false = refl

braced_plain : (indent front : List ℕ) (ks : List Key) (ls : List (List ℕ)) → has_no_feed indent ≡ true
    → has_no_feed front ≡ true → list_all has_no_feed ls ≡ true
    → list_all has_no_feed (braced_lines indent front ks ls) ≡ true
braced_plain indent front [] ls i f all = and_from _ _ (no_feeds front (codes "{},") f refl) refl
braced_plain indent front (key ∷ ks) ls i f all =
    and_from _ _ (no_feeds front (codes "{") f refl)
    (both_have_none ls ((indent ++ codes "},") ∷ []) all (and_from _ _ (no_feeds indent (codes "},") i refl) refl))

mutual
  plain_value : (indent front : List ℕ) (value : Datum) → has_no_feed indent ≡ true → has_no_feed front ≡ true
      → IsPlain value → list_all has_no_feed (value_lines indent front value) ≡ true
  plain_value indent front nil i f is = and_from _ _ (no_feeds front (codes "nil,") f refl) refl
  plain_value indent front (truth_value b) i f is = and_from _ _ (no_feeds front (truth_text b ++ codes ",") f
      (truth_has_none b)) refl
  plain_value indent front (int_value n) i f is = absurd is
  plain_value indent front (text_value bytes) i f is = and_from _ _ (no_feeds front (quoted bytes ++ codes ",") f
      (no_feeds (quoted bytes) (codes ",") (quoted_has_none bytes is) refl)) refl
  plain_value indent front (table_value ps) i f is =
      braced_plain indent front (keys ps) (entries_lines (deeper indent) (keys ps) ps) i f
      (plain_entries (deeper indent) (keys ps) ps (no_feeds indent (codes "   ") i refl) is)

  plain_entries : (indent : List ℕ) (ks : List Key) (ps : Pairs) → has_no_feed indent ≡ true → ArePlain ks ps
      → list_all has_no_feed (entries_lines indent ks ps) ≡ true
  plain_entries indent ks no_pairs i is = refl
  plain_entries indent ks (with_pair key value rest) i is =
      both_have_none (value_lines indent (indent ++ entry_key_text ks key) value) (entries_lines indent ks rest)
      (plain_value indent (indent ++ entry_key_text ks key) value i (no_feeds indent (entry_key_text ks key) i is.0) is.1)
      (plain_entries indent ks rest i is.2)

closed_plain : (name : List ℕ) (ks : List Key) (ls : List (List ℕ)) → has_no_feed name ≡ true
    → list_all has_no_feed ls ≡ true → list_all has_no_feed (closed_section name ks ls) ≡ true
closed_plain name [] ls n all = and_from _ _ (no_feeds name (codes " = {}") n refl) refl
closed_plain name (key ∷ ks) ls n all =
    and_from _ _ (no_feeds name (codes " = {") n refl) (both_have_none ls (codes "}" ∷ []) all refl)

pub plain_section : (name : List ℕ) (ps : Pairs) → has_no_feed name ≡ true → ArePlain (keys ps) ps
    → list_all has_no_feed (section_lines name ps) ≡ true
plain_section name ps n is =
    closed_plain name (keys ps) (entries_lines (codes "   ") (keys ps) ps) n
    (plain_entries (codes "   ") (keys ps) ps refl is)

-- ---- the lines within a table begin with a blank

abbrev pub begins_blank : List ℕ → Bool
begins_blank [] = false
begins_blank (b ∷ line) = b == 32

both_blank : (front back : List (List ℕ)) → list_all begins_blank front ≡ true → list_all begins_blank back ≡ true
    → list_all begins_blank (front ++ back) ≡ true
both_blank front back f b = list_all-append begins_blank front back ∙ and_from _ _ f b

braced_blank : (indent front : List ℕ) (ks : List Key) (ls : List (List ℕ)) → list_all begins_blank ls ≡ true
    → list_all begins_blank (braced_lines (32 ∷ indent) (32 ∷ front) ks ls) ≡ true
braced_blank indent front [] ls all = refl
braced_blank indent front (key ∷ ks) ls all = both_blank ls ((32 ∷ indent ++ codes "},") ∷ []) all refl

mutual
  blank_value : (indent front : List ℕ) (value : Datum)
      → list_all begins_blank (value_lines (32 ∷ indent) (32 ∷ front) value) ≡ true
  blank_value indent front nil = refl
  blank_value indent front (truth_value b) = refl
  blank_value indent front (int_value n) = refl
  blank_value indent front (text_value bytes) = refl
  blank_value indent front (table_value ps) =
      braced_blank indent front (keys ps) (entries_lines (deeper (32 ∷ indent)) (keys ps) ps)
      (blank_entries (indent ++ codes "   ") (keys ps) ps)

  pub blank_entries : (indent : List ℕ) (ks : List Key) (ps : Pairs)
      → list_all begins_blank (entries_lines (32 ∷ indent) ks ps) ≡ true
  blank_entries indent ks no_pairs = refl
  blank_entries indent ks (with_pair key value rest) =
      both_blank (value_lines (32 ∷ indent) (32 ∷ (indent ++ entry_key_text ks key)) value)
      (entries_lines (32 ∷ indent) ks rest)
      (blank_value indent (indent ++ entry_key_text ks key) value) (blank_entries indent ks rest)
