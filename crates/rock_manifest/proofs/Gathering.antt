-- What is gathered from the lines of a record's text.
use Rattle.std.proofs.Common.{◌≡◌, ℕ, List, [], ◌∷◌, ◌++◌, refl, sym, ap, ◌∙◌, true, false, Bool, cond, codes, map, append_assoc, ◌<◌, ◌+◌, length, get_or, drop}
use Rattle.std.specs.Prelude.{nat_eq}
use Rattle.std.specs.List.{All, starts_with}
use Rattle.std.specs.Option.{option_to_list}
use Rattle.std.proofs.lemmas.List.Elements.{All-head, All-tail}
use Rattle.std.proofs.lemmas.List.{at_drop_more}
use Rattle.rock_manifest.specs.Reading.{file_in, files_under}
use Rattle.rock_manifest.proofs.Finding.{file_again}
use Rattle.rock_manifest.proofs.Spelling.{bare_line, table_of, Files, IsFile}

abbrev pub starts : List ℕ → List ℕ → Bool
starts line name = starts_with nat_eq line name

-- what stands before lines of files makes no difference behind them
abbrev pub ForgetsPlace : List ℕ → List (List ℕ) → Type 0
ForgetsPlace name ls = (inside : Bool) → files_under name inside ls ≡ files_under name false ls

module _ (name : List ℕ) where
  gathered : (inside : Bool) (files : Files) (rest : List (List ℕ)) → All IsFile files
      → files_under name inside (map bare_line files ++ rest) ≡ cond inside files [] ++ files_under name inside rest
  gathered true [] rest all = refl
  gathered false [] rest all = refl
  gathered true (file ∷ files) rest all =
      ap (λ o. option_to_list o ++ files_under name true (map bare_line files ++ rest))
      (file_again file (All-head IsFile file files all))
      ∙ ap (λ (l : Files). file ∷ l) (gathered true files rest (All-tail IsFile file files all))
  gathered false (file ∷ files) rest all = gathered false files rest (All-tail IsFile file files all)

  -- a line that doesn't begin with a blank
  pub turned : (line : List ℕ) (rest : List (List ℕ)) (inside : Bool) → starts line (codes " ") ≡ false
      → files_under name inside (line ∷ rest) ≡ files_under name (starts line name) rest
  turned line rest inside other = ap
      (λ t. cond t (cond inside (option_to_list (file_in line)) [] ++ files_under name inside rest)
      (files_under name (starts line name) rest)) other

  -- a line that does, where no file is asked for, and where one is
  pub skipped : (line : List ℕ) (rest : List (List ℕ)) (inside : Bool) → starts line (codes " ") ≡ true
      → inside ≡ false → files_under name inside (line ∷ rest) ≡ files_under name inside rest
  skipped line rest inside is out = ap
      (λ t. cond t (cond inside (option_to_list (file_in line)) [] ++ files_under name inside rest)
      (files_under name (starts line name) rest)) is
      ∙ ap (λ t. cond t (option_to_list (file_in line)) [] ++ files_under name inside rest) out

  pub taken : (line : List ℕ) (rest : List (List ℕ)) (inside : Bool) → starts line (codes " ") ≡ true → inside ≡ true
      → files_under name inside (line ∷ rest) ≡ option_to_list (file_in line) ++ files_under name inside rest
  taken line rest inside is within = ap
      (λ t. cond t (cond inside (option_to_list (file_in line)) [] ++ files_under name inside rest)
      (files_under name (starts line name) rest)) is
      ∙ ap (λ t. cond t (option_to_list (file_in line)) [] ++ files_under name inside rest) within

  -- the line at a place among those that are left
  pub next_line : (ls : List (List ℕ)) (n : ℕ) (line : List ℕ) (inside : Bool)
      → (n < length ls) × (line ≡ get_or ls n line)
      → files_under name inside (drop n ls) ≡ files_under name inside (line ∷ drop (n + 1) ls)
  next_line ls n line inside at = at_drop_more (files_under name inside) ls n line at.0
      ∙ ap (λ (l : List ℕ). files_under name inside (l ∷ drop (n + 1) ls)) (sym at.1)

  -- one line more is gathered
  pub one_more : (ls : List (List ℕ)) (n m : ℕ) (line : List ℕ) (inside after : Bool) (files grown total : Files)
      → m ≡ n + 1 → (n < length ls) × (line ≡ get_or ls n line)
      → files ++ files_under name inside (drop n ls) ≡ total
      → ((rest : List (List ℕ)) → grown ++ files_under name after rest ≡ files ++ files_under name inside (line ∷ rest))
      → grown ++ files_under name after (drop m ls) ≡ total
  one_more ls n m line inside after files grown total e at before each =
      ap (λ (k : ℕ). grown ++ files_under name after (drop k ls)) e ∙ each (drop (n + 1) ls)
      ∙ ap (λ (l : Files). files ++ l) (sym (next_line ls n line inside at)) ∙ before

  -- a global's lines give its files where they are asked for
  pub under_table : (global : List ℕ) (files : Files) (rest : List (List ℕ)) (asked inside : Bool)
      → starts (global ++ codes " = {") (codes " ") ≡ false → starts (global ++ codes " = {}") (codes " ") ≡ false
      → starts (global ++ codes " = {") name ≡ asked → starts (codes "}") name ≡ false
      → All IsFile files → ForgetsPlace name rest
      → files_under name inside (table_of global files ++ rest) ≡ cond asked files [] ++ files_under name false rest
  under_table global [] rest true inside full bare is ends all forgets = turned
      (global ++ codes " = {}") rest inside bare ∙ forgets _
  under_table global [] rest false inside full bare is ends all forgets = turned
      (global ++ codes " = {}") rest inside bare ∙ forgets _
  under_table global (file ∷ files) rest asked inside full bare is ends all forgets =
      turned (global ++ codes " = {") ((map bare_line (file ∷ files) ++ codes "}" ∷ []) ++ rest) inside full
      ∙ ap (λ t. files_under name t ((map bare_line (file ∷ files) ++ codes "}" ∷ []) ++ rest)) is
      ∙ ap (files_under name asked) (append_assoc (map bare_line (file ∷ files)) (codes "}" ∷ []) rest)
      ∙ gathered asked (file ∷ files) (codes "}" ∷ rest) all
      ∙ ap (λ (l : Files). cond asked (file ∷ files) [] ++ l) (turned (codes "}") rest asked refl ∙ forgets _)
