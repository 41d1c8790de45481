-- What single lines of a manifest's text do to what is gathered.
use Rattle.std.proofs.Common.{◌≡◌, ℕ, ◌+◌, List, [], ◌∷◌, ◌++◌, refl, sym, ap, subst, ◌∙◌, true, false, Bool, cond, ◌==◌, codes, arith}
use Rattle.std.specs.Prelude.{nat_eq}
use Rattle.std.specs.List.{list_all, prefix_len, starts_with}
use Rattle.std.proofs.lemmas.Bool.{and_left, and_parts, cond_both, ne_eqb}
use Rattle.std.proofs.lemmas.Bool.Decides.{nat_tests}
use Rattle.lua_names.specs.Names.{is_name, is_name_byte, is_name_start}
use Rattle.lua_print.specs.Printed.{key_text}
use Rattle.lua_value.specs.declared.key.Key.TheVariants.{Text}
use Rattle.tree_manifest.specs.declared.groups.Depths.{Depths}
use Rattle.tree_manifest.specs.declared.groups.Gathered.{Gathered}
use Rattle.tree_manifest.specs.declared.groups.Group.{Group}
use Rattle.tree_manifest.specs.Found.{path_depths, rock_depths}
use Rattle.tree_manifest.specs.Reading.{with_blanks, with_line, with_lines, with_text}
use Rattle.tree_manifest.proofs.Plain.{begins_blank}

abbrev pub at : Bool → List ℕ → List Group → Gathered
at inside outer groups = record { inside = inside; outer = outer; groups = groups }

abbrev pub group : (outer head : List ℕ) → List (List ℕ) → Group
group outer head texts = record { outer = outer; head = head; texts = texts }

-- ---- what keys begin with

-- text that begins with neither a blank nor a closing brace
pub record Begins (text : List ℕ) : Type 0 where
  pub first : ℕ
  pub behind : List ℕ
  pub is : text ≡ first ∷ behind
  pub not_blank : (first == 32) ≡ false
  pub not_closing : (125 == first) ≡ false

bare : (key : List ℕ) → is_name key ≡ true → Begins (key ++ codes " = ")
bare [] is = absurd (cc is)
bare (b ∷ key) is =
    let begins = (and_parts (is_name_start b) (list_all is_name_byte key) (and_parts _ _ is).0).0 in
    record {
      first = b;
      behind = key ++ codes " = ";
      is = refl;
      not_blank = grind (arith, nat_tests);
      not_closing = grind (arith, nat_tests);
    }

pub key_begins : (key : List ℕ) → Begins (key_text (Text key))
key_begins key =
    cond_both (is_name key) (key ++ codes " = ") _ Begins (bare key)
    (λ _. record { first = 91; behind = _; is = refl; not_blank = refl; not_closing = refl })

pub behind_begins : (text end : List ℕ) → Begins text → Begins (text ++ end)
behind_begins text end b = record {
  first = b.first;
  behind = b.behind ++ end;
  is = ap (λ (t : List ℕ). t ++ end) b.is;
  not_blank = b.not_blank;
  not_closing = b.not_closing;
}

-- ---- lines that are not asked for

module _ (name : List ℕ) (depths : Depths) (outer : List ℕ) (groups : List Group) where
  skipped_line : (line : List ℕ) → begins_blank line ≡ true
      → with_line name depths (at false outer groups) line ≡ at false outer groups
  skipped_line [] is = absurd (cc is)
  skipped_line (b ∷ line) is =
      ap (λ t. with_blanks name depths (at false outer groups) (b ∷ line) (cond t (1 + prefix_len (λ c. c == 32) line) 0)) is
      ∙ ap (λ t. cond t (record (at false outer groups) { inside = starts_with nat_eq (b ∷ line) name })
      (at false outer groups)) (ne_eqb (1 + prefix_len (λ c. c == 32) line) 0 (λ e. omega arith))

  pub skipped_lines : (ls rest : List (List ℕ)) → list_all begins_blank ls ≡ true
      → with_lines name depths (at false outer groups) (ls ++ rest) ≡ with_lines name depths (at false outer groups) rest
  skipped_lines [] rest all = refl
  skipped_lines (line ∷ ls) rest all =
      let h = and_parts (begins_blank line) (list_all begins_blank ls) all in
      ap (λ (g : Gathered). with_lines name depths g (ls ++ rest)) (skipped_line line h.0)
      ∙ skipped_lines ls rest h.1

-- ---- texts

pub text_behind : (text : List ℕ) (groups : List Group) (last : Group)
    → with_text text (groups ++ last ∷ []) ≡ groups ++ group last.outer last.head (last.texts ++ text ∷ []) ∷ []
text_behind text [] last = refl
text_behind text (first ∷ []) last = refl
text_behind text (first ∷ next ∷ groups) last = ap (λ (l : List Group). first ∷ l) (text_behind text (next ∷ groups) last)

-- ---- lines that open tables

prefix_ends : (b : ℕ) (line : List ℕ) → (b == 32) ≡ false → prefix_len (λ c. c == 32) (b ∷ line) ≡ 0
prefix_ends b line other = ap (λ t. cond t (1 + prefix_len (λ c. c == 32) line) 0) other

not_closed : (b : ℕ) (line : List ℕ) → (125 == b) ≡ false → starts_with nat_eq (b ∷ line) (codes "}") ≡ false
not_closed b line other = and_left (125 == b) _ other

module _ (name outer : List ℕ) (groups : List Group) where
  -- what is gathered by a line of a path, of a version, and of a name
  pub path_line : (text : List ℕ) → Begins text
      → with_line name path_depths (at true outer groups) (codes "   " ++ text)
      ≡ at true outer (groups ++ group outer text [] ∷ [])
  path_line text b = subst
      (λ (t : List ℕ). with_line name path_depths (at true outer groups) (codes "   " ++ t)
      ≡ at true outer (groups ++ group outer t [] ∷ [])) (sym b.is) (
      ap (λ n. with_blanks name path_depths (at true outer groups) (codes "   " ++ b.first ∷ b.behind) (1 + (1 + (1 + n))))
      (prefix_ends b.first b.behind b.not_blank)
      ∙ ap (λ t. cond t (at true outer groups) (at true outer (groups ++ group outer (b.first ∷ b.behind) [] ∷ [])))
      (not_closed b.first b.behind b.not_closing))

  pub version_line : (text : List ℕ) → Begins text
      → with_line name rock_depths (at true outer groups) (codes "      " ++ text)
      ≡ at true outer (groups ++ group outer text [] ∷ [])
  version_line text b = subst
      (λ (t : List ℕ). with_line name rock_depths (at true outer groups) (codes "      " ++ t)
      ≡ at true outer (groups ++ group outer t [] ∷ [])) (sym b.is) (
      ap (λ n. with_blanks name rock_depths (at true outer groups) (codes "      " ++ b.first ∷ b.behind)
      (1 + (1 + (1 + (1 + (1 + (1 + n)))))))
      (prefix_ends b.first b.behind b.not_blank)
      ∙ ap (λ t. cond t (at true outer groups) (at true outer (groups ++ group outer (b.first ∷ b.behind) [] ∷ [])))
      (not_closed b.first b.behind b.not_closing))

  pub name_line : (text : List ℕ) → Begins text
      → with_line name rock_depths (at true outer groups) (codes "   " ++ text) ≡ at true text groups
  name_line text b = subst
      (λ (t : List ℕ). with_line name rock_depths (at true outer groups) (codes "   " ++ t) ≡ at true t groups)
      (sym b.is) (
      ap (λ n. with_blanks name rock_depths (at true outer groups) (codes "   " ++ b.first ∷ b.behind) (1 + (1 + (1 + n))))
      (prefix_ends b.first b.behind b.not_blank)
      ∙ ap (λ t. cond t (at true outer groups) (at true (b.first ∷ b.behind) groups))
      (not_closed b.first b.behind b.not_closing))
