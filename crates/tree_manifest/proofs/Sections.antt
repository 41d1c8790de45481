-- What is gathered of a manifest's text, global by global.
use Rattle.std.proofs.Common.{◌≡◌, ◌≢◌, ℕ, List, [], ◌∷◌, ◌++◌, refl, ap, ◌∙◌, true, false, Bool, codes, append_assoc, map}
use Rattle.std.specs.List.{list_all, AllByRecursion}
use Rattle.lua_value.specs.declared.key.Key.{Key}
use Rattle.lua_value.specs.Pairs.{Pairs, keys}
use Rattle.tree_manifest.specs.declared.groups.Depths.{Depths}
use Rattle.tree_manifest.specs.declared.groups.Gathered.{Gathered}
use Rattle.tree_manifest.specs.declared.groups.Group.{Group}
use Rattle.tree_manifest.specs.Forms.{path_group, rock_group}
use Rattle.tree_manifest.specs.Found.{path_depths, rock_depths}
use Rattle.tree_manifest.specs.Reading.{with_line, with_lines}
use Rattle.tree_manifest.proofs.Lined.{closed_section, entries_lines, section_lines}
use Rattle.tree_manifest.proofs.Pathed.{Paths, path_pairs}
use Rattle.tree_manifest.proofs.Plain.{begins_blank, blank_entries}
use Rattle.tree_manifest.proofs.Grouped.{Groups, group_pairs, rocks_of}
use Rattle.tree_manifest.proofs.Gathered.{last_head, needed, paths_read, rocks_read}
use Rattle.tree_manifest.proofs.Steps.{at, skipped_lines}

-- a line after which nothing is gathered, or after which lines are
abbrev Turns : (name : List ℕ) → Depths → Bool → (line : List ℕ) → Type 0
Turns name depths asked line =
    (inside : Bool) (outer : List ℕ) (groups : List Group)
    → with_line name depths (at inside outer groups) line ≡ at asked outer groups

-- the first line of a global, with entries or without
abbrev Opens : (name : List ℕ) → Depths → Bool → (title : List ℕ) → Type 0
Opens name depths asked title =
    Turns name depths asked (title ++ codes " = {") × Turns name depths asked (title ++ codes " = {}")

regrouped : (front rest : List (List ℕ)) (line : List ℕ) → (front ++ line ∷ []) ++ rest ≡ front ++ line ∷ rest
regrouped front rest line = simp append_assoc

module _ (name : List ℕ) (depths : Depths) (closes : Turns name depths false (codes "}")) where
  skipped_section : (title : List ℕ) → Opens name depths false title → (ks : List Key) (ls rest : List (List ℕ))
      (inside : Bool) (outer : List ℕ) (groups : List Group) → list_all begins_blank ls ≡ true
      → with_lines name depths (at inside outer groups) (closed_section title ks ls ++ rest)
      ≡ with_lines name depths (at false outer groups) rest
  skipped_section title opens [] ls rest inside outer groups blank =
      ap (λ (g : Gathered). with_lines name depths g rest) (opens.1 inside outer groups)
  skipped_section title opens (key ∷ ks) ls rest inside outer groups blank =
      ap (λ (g : Gathered). with_lines name depths g ((ls ++ codes "}" ∷ []) ++ rest)) (opens.0 inside outer groups)
      ∙ ap (with_lines name depths (at false outer groups)) (regrouped ls rest (codes "}"))
      ∙ skipped_lines name depths outer groups ls (codes "}" ∷ rest) blank
      ∙ ap (λ (g : Gathered). with_lines name depths g rest) (closes false outer groups)

  skips : (title : List ℕ) → Opens name depths false title → (ps : Pairs) (rest : List (List ℕ))
      (inside : Bool) (outer : List ℕ) (groups : List Group)
      → with_lines name depths (at inside outer groups) (section_lines title ps ++ rest)
      ≡ with_lines name depths (at false outer groups) rest
  skips title opens ps rest inside outer groups =
      skipped_section title opens (keys ps) (entries_lines (codes "   ") (keys ps) ps) rest inside outer groups
      (blank_entries (codes "  ") (keys ps) ps)

-- ---- the global that is asked for

abbrev some_left : Paths → Bool
some_left [] = true
some_left (path ∷ paths) = false

module _ (name : List ℕ) (closes : Turns name path_depths false (codes "}")) (opens : Opens name path_depths true name) where
  paths_found : (paths : Paths) → AllByRecursion (λ path. path.1 ≢ []) paths → (rest : List (List ℕ)) (inside : Bool)
      → with_lines name path_depths (at inside [] []) (section_lines name (path_pairs paths) ++ rest)
      ≡ with_lines name path_depths (at (some_left paths) [] (map path_group paths)) rest
  paths_found [] some rest inside =
      ap (λ (g : Gathered). with_lines name path_depths g rest) (opens.1 inside [] [])
  paths_found (path ∷ paths) some rest inside =
      let ks = keys (path_pairs (path ∷ paths)) in
      let ls = entries_lines (codes "   ") ks (path_pairs (path ∷ paths)) in
      ap (λ (g : Gathered). with_lines name path_depths g ((ls ++ codes "}" ∷ []) ++ rest)) (opens.0 inside [] [])
      ∙ ap (with_lines name path_depths (at true [] [])) (regrouped ls rest (codes "}"))
      ∙ paths_read name (path ∷ paths) ks (codes "}" ∷ rest) [] some
      ∙ ap (λ (g : Gathered). with_lines name path_depths g rest) (closes true [] (map path_group (path ∷ paths)))

abbrev none_left : Groups → Bool
none_left [] = true
none_left (one ∷ all) = false

module _ (name : List ℕ) (closes : Turns name rock_depths false (codes "}")) (opens : Opens name rock_depths true name) where
  rocks_found : (all : Groups) (rest : List (List ℕ)) (inside : Bool)
      → with_lines name rock_depths (at inside [] []) (section_lines name (group_pairs needed all) ++ rest)
      ≡ with_lines name rock_depths (at (none_left all) (last_head [] all) (map rock_group (rocks_of all))) rest
  rocks_found [] rest inside =
      ap (λ (g : Gathered). with_lines name rock_depths g rest) (opens.1 inside [] [])
  rocks_found (one ∷ all) rest inside =
      let ks = keys (group_pairs needed (one ∷ all)) in
      let ls = entries_lines (codes "   ") ks (group_pairs needed (one ∷ all)) in
      let outer = last_head [] (one ∷ all) in
      ap (λ (g : Gathered). with_lines name rock_depths g ((ls ++ codes "}" ∷ []) ++ rest)) (opens.0 inside [] [])
      ∙ ap (with_lines name rock_depths (at true [] [])) (regrouped ls rest (codes "}"))
      ∙ rocks_read name (one ∷ all) ks (codes "}" ∷ rest) [] []
      ∙ ap (λ (g : Gathered). with_lines name rock_depths g rest)
      (closes true outer (map rock_group (rocks_of (one ∷ all))))

-- ---- all globals

-- the lines of the five globals
abbrev pub five : (c d l m r : Pairs) → List (List ℕ) → List (List ℕ)
five c d l m r rest =
    section_lines (codes "commands") c ++ (section_lines (codes "dependencies") d
    ++ (section_lines (codes "libs") l ++ (section_lines (codes "modules") m
    ++ (section_lines (codes "repository") r ++ rest))))

abbrev last_line : List (List ℕ)
last_line = [] ∷ []

module _ (paths : Paths) (some : AllByRecursion (λ path. path.1 ≢ []) paths) where
  pub commands_found : (d l m r : Pairs)
      → (with_lines (codes "commands") path_depths (at false [] []) (five (path_pairs paths) d l m r last_line)).groups
      ≡ map path_group paths
  commands_found d l m r =
      let name = codes "commands" in
      let found = map path_group paths in
      let skip = skips name path_depths (λ _ _ _. refl) in
      ap (λ (g : Gathered). g.groups) (
      paths_found name (λ _ _ _. refl) (λ _ _ _. refl, λ _ _ _. refl) paths some _ false
      ∙ skip (codes "dependencies") (λ _ _ _. refl, λ _ _ _. refl) d _ (some_left paths) [] found
      ∙ skip (codes "libs") (λ _ _ _. refl, λ _ _ _. refl) l _ false [] found
      ∙ skip (codes "modules") (λ _ _ _. refl, λ _ _ _. refl) m _ false [] found
      ∙ skip (codes "repository") (λ _ _ _. refl, λ _ _ _. refl) r last_line false [] found)

  pub libs_found : (c d m r : Pairs)
      → (with_lines (codes "libs") path_depths (at false [] []) (five c d (path_pairs paths) m r last_line)).groups
      ≡ map path_group paths
  libs_found c d m r =
      let name = codes "libs" in
      let found = map path_group paths in
      let skip = skips name path_depths (λ _ _ _. refl) in
      ap (λ (g : Gathered). g.groups) (
      skip (codes "commands") (λ _ _ _. refl, λ _ _ _. refl) c _ false [] []
      ∙ skip (codes "dependencies") (λ _ _ _. refl, λ _ _ _. refl) d _ false [] []
      ∙ paths_found name (λ _ _ _. refl) (λ _ _ _. refl, λ _ _ _. refl) paths some _ false
      ∙ skip (codes "modules") (λ _ _ _. refl, λ _ _ _. refl) m _ (some_left paths) [] found
      ∙ skip (codes "repository") (λ _ _ _. refl, λ _ _ _. refl) r last_line false [] found)

  pub modules_found : (c d l r : Pairs)
      → (with_lines (codes "modules") path_depths (at false [] []) (five c d l (path_pairs paths) r last_line)).groups
      ≡ map path_group paths
  modules_found c d l r =
      let name = codes "modules" in
      let found = map path_group paths in
      let skip = skips name path_depths (λ _ _ _. refl) in
      ap (λ (g : Gathered). g.groups) (
      skip (codes "commands") (λ _ _ _. refl, λ _ _ _. refl) c _ false [] []
      ∙ skip (codes "dependencies") (λ _ _ _. refl, λ _ _ _. refl) d _ false [] []
      ∙ skip (codes "libs") (λ _ _ _. refl, λ _ _ _. refl) l _ false [] []
      ∙ paths_found name (λ _ _ _. refl) (λ _ _ _. refl, λ _ _ _. refl) paths some _ false
      ∙ skip (codes "repository") (λ _ _ _. refl, λ _ _ _. refl) r last_line (some_left paths) [] found)

pub dependencies_found : (all : Groups) (c l m r : Pairs)
    → (with_lines (codes "dependencies") rock_depths (at false [] []) (five c (group_pairs needed all) l m r last_line)).groups
    ≡ map rock_group (rocks_of all)
dependencies_found all c l m r =
    let name = codes "dependencies" in
    let found = map rock_group (rocks_of all) in
    let outer = last_head [] all in
    let skip = skips name rock_depths (λ _ _ _. refl) in
    ap (λ (g : Gathered). g.groups) (
    skip (codes "commands") (λ _ _ _. refl, λ _ _ _. refl) c _ false [] []
    ∙ rocks_found name (λ _ _ _. refl) (λ _ _ _. refl, λ _ _ _. refl) all _ false
    ∙ skip (codes "libs") (λ _ _ _. refl, λ _ _ _. refl) l _ (none_left all) outer found
    ∙ skip (codes "modules") (λ _ _ _. refl, λ _ _ _. refl) m _ false outer found
    ∙ skip (codes "repository") (λ _ _ _. refl, λ _ _ _. refl) r last_line false outer found)
