-- What is gathered of the lines of each table.
use Rattle.std.proofs.Common.{◌≡◌, ◌≢◌, ℕ, List, [], ◌∷◌, ◌++◌, refl, sym, ap, ◌∙◌, true, codes, append_assoc, append-nil, map}
use Rattle.std.specs.List.{flat_map, AllByRecursion}
use Rattle.std.proofs.lemmas.List.{map-append}
use Rattle.lua_names.specs.Keywords.{keyword_of}
use Rattle.lua_print.specs.Printed.{key_text as entry_key}
use Rattle.lua_print.specs.Quoted.{quoted}
use Rattle.lua_value.specs.declared.key.Key.{Key}
use Rattle.lua_value.specs.declared.key.Key.TheVariants.{Text}
use Rattle.lua_value.specs.Pairs.{Datum, keys, table_value, text_value}
use Rattle.manifest_text.specs.Text.{key_text, keys_pairs, need_pairs, needs_pairs}
use Rattle.rocks_constraint.specs.Printed.{printed}
use Rattle.rocks_constraint.specs.Wanted.{Wanted}
use Rattle.rocks_version.specs.declared.key.RockKey.{RockKey}
use Rattle.tree_manifest.specs.declared.groups.Gathered.{Gathered}
use Rattle.tree_manifest.specs.declared.groups.Group.{Group}
use Rattle.tree_manifest.specs.Forms.{empty_at, key_line, need_texts, opening, path_group, rock_group, text_line, version_line as line_of_version}
use Rattle.tree_manifest.specs.Found.{path_depths, rock_depths}
use Rattle.tree_manifest.specs.Reading.{with_lines}
use Rattle.tree_manifest.proofs.Lined.{entries_lines, value_lines}
use Rattle.tree_manifest.proofs.Listed.{list_lines}
use Rattle.tree_manifest.proofs.Pathed.{Paths, path_pairs}
use Rattle.tree_manifest.proofs.Grouped.{Needs, Versions, Groups, group_pairs, rock_at, rocks_of, version_pairs}
use Rattle.tree_manifest.proofs.Steps.{at, group, behind_begins, key_begins, name_line, path_line, text_behind, version_line}

-- ---- the lines in a list

-- behind the blanks of a path's table
key_lines : List RockKey → List (List ℕ)
key_lines keys = map (λ key. codes "      " ++ key_line key) keys

flat_keys : (keys : List RockKey)
    → flat_map (λ v. value_lines (codes "      ") (codes "      " ++ []) v) (map (λ key. text_value (key_text key)) keys)
    ≡ key_lines keys
unfolding key_lines
flat_keys [] = refl
flat_keys (key ∷ keys) = ap (λ (l : List (List ℕ)). (codes "      " ++ key_line key) ∷ l) (flat_keys keys)

keys_are : (rocks : List RockKey)
    → entries_lines (codes "      ") (keys (keys_pairs rocks)) (keys_pairs rocks) ≡ key_lines rocks
keys_are rocks = list_lines (codes "      ") (map (λ key. text_value (key_text key)) rocks) ∙ flat_keys rocks

-- the four lines of a dependency
need_lines : Wanted × RockKey → List (List ℕ)
need_lines need =
    codes "         {"
    ∷ (codes "            " ++ text_line (codes "met = ") (key_text need.1))
    ∷ (codes "            " ++ text_line (codes "needs = ") (printed need.0.name need.0.constraints))
    ∷ codes "         }," ∷ []

-- the same with what is printed of the two keys
keyed_lines : (met needs : List ℕ) → Wanted × RockKey → List (List ℕ)
keyed_lines met needs need =
    codes "         {"
    ∷ ((codes "            " ++ met) ++ (quoted (key_text need.1) ++ codes ","))
    ∷ ((codes "            " ++ needs) ++ (quoted (printed need.0.name need.0.constraints) ++ codes ","))
    ∷ codes "         }," ∷ []

met_key : entry_key (Text (codes "met")) ≡ codes "met = "
unfolding keyword_of
met_key = refl

needs_key : entry_key (Text (codes "needs")) ≡ codes "needs = "
unfolding keyword_of
needs_key = refl

one_need : (need : Wanted × RockKey)
    → value_lines (codes "         ") (codes "         " ++ []) (table_value (need_pairs need)) ≡ need_lines need
unfolding need_lines keyed_lines
one_need need =
    ap (λ (key : List ℕ). keyed_lines key (entry_key (Text (codes "needs"))) need) met_key
    ∙ ap (λ (key : List ℕ). keyed_lines (codes "met = ") key need) needs_key

flat_needs : (needs : Needs)
    → flat_map (λ v. value_lines (codes "         ") (codes "         " ++ []) v)
    (map (λ need. table_value (need_pairs need)) needs) ≡ flat_map need_lines needs
flat_needs [] = refl
flat_needs (need ∷ needs) =
    ap (λ (l : List (List ℕ)). l ++ flat_map (λ v. value_lines (codes "         ") (codes "         " ++ []) v)
    (map (λ n. table_value (need_pairs n)) needs)) (one_need need)
    ∙ ap (λ (l : List (List ℕ)). need_lines need ++ l) (flat_needs needs)

needs_are : (needs : Needs)
    → entries_lines (codes "         ") (keys (needs_pairs needs)) (needs_pairs needs) ≡ flat_map need_lines needs
needs_are needs = list_lines (codes "         ") (map (λ need. table_value (need_pairs need)) needs) ∙ flat_needs needs

-- ---- what is gathered of them

module _ (name : List ℕ) where
  keys_read : (keys : List RockKey) (rest : List (List ℕ)) (outer head : List ℕ) (texts : List (List ℕ)) (groups : List Group)
      → with_lines name path_depths (at true outer (groups ++ group outer head texts ∷ [])) (key_lines keys ++ rest)
      ≡ with_lines name path_depths (at true outer (groups ++ group outer head (texts ++ map key_line keys) ∷ [])) rest
  unfolding key_lines
  keys_read [] rest outer head texts groups =
      ap (λ (l : List (List ℕ)). with_lines name path_depths (at true outer (groups ++ group outer head l ∷ [])) rest)
      (sym (append-nil texts))
  keys_read (key ∷ keys) rest outer head texts groups =
      ap (λ (l : List Group). with_lines name path_depths (at true outer l) (key_lines keys ++ rest))
      (text_behind (key_line key) groups (group outer head texts))
      ∙ keys_read keys rest outer head (texts ++ key_line key ∷ []) groups
      ∙ ap (λ (l : List (List ℕ)). with_lines name path_depths (at true outer (groups ++ group outer head l ∷ [])) rest)
      (append_assoc texts (key_line key ∷ []) (map key_line keys))

  needs_read : (needs : Needs) (rest : List (List ℕ)) (outer head : List ℕ) (texts : List (List ℕ)) (groups : List Group)
      → with_lines name rock_depths (at true outer (groups ++ group outer head texts ∷ [])) (flat_map need_lines needs ++ rest)
      ≡ with_lines name rock_depths
      (at true outer (groups ++ group outer head (texts ++ flat_map need_texts needs) ∷ [])) rest
  unfolding need_lines
  needs_read [] rest outer head texts groups =
      ap (λ (l : List (List ℕ)). with_lines name rock_depths (at true outer (groups ++ group outer head l ∷ [])) rest)
      (sym (append-nil texts))
  needs_read (need ∷ needs) rest outer head texts groups =
      let met = text_line (codes "met = ") (key_text need.1) in
      let wanted = text_line (codes "needs = ") (printed need.0.name need.0.constraints) in
      let behind = codes "         }," ∷ (flat_map need_lines needs ++ rest) in
      ap (λ (l : List Group). with_lines name rock_depths (at true outer l)
      ((codes "            " ++ wanted) ∷ behind)) (text_behind met groups (group outer head texts))
      ∙ ap (λ (l : List Group). with_lines name rock_depths (at true outer l) behind)
      (text_behind wanted groups (group outer head (texts ++ met ∷ [])))
      ∙ needs_read needs rest outer head ((texts ++ met ∷ []) ++ wanted ∷ []) groups
      ∙ ap (λ (l : List (List ℕ)). with_lines name rock_depths (at true outer (groups ++ group outer head l ∷ [])) rest)
      (append_assoc (texts ++ met ∷ []) (wanted ∷ []) (flat_map need_texts needs)
      ∙ append_assoc texts (met ∷ []) (wanted ∷ flat_map need_texts needs))

-- ---- tables of paths

path_lines : List ℕ × List RockKey → List (List ℕ)
path_lines path = (codes "   " ++ opening path.0) ∷ (key_lines path.1 ++ codes "   }," ∷ [])

one_path : (path : List ℕ) (rocks : List RockKey) → rocks ≢ []
    → value_lines (codes "   ") (codes "   " ++ entry_key (Text path)) (table_value (keys_pairs rocks))
    ≡ path_lines (path, rocks)
unfolding path_lines
one_path path [] some = absurd (some refl)
one_path path (key ∷ rocks) some =
    ap (λ (ls : List (List ℕ)). (codes "   " ++ opening path) ∷ (ls ++ codes "   }," ∷ [])) (keys_are (key ∷ rocks))

regrouped : (front more rest : List (List ℕ)) (line : List ℕ)
    → ((front ++ line ∷ []) ++ more) ++ rest ≡ front ++ line ∷ (more ++ rest)
regrouped front more rest line = simp append_assoc

module _ (name : List ℕ) where
  pub paths_read : (paths : Paths) (ks : List Key) (rest : List (List ℕ)) (groups : List Group)
      → AllByRecursion (λ path. path.1 ≢ []) paths
      → with_lines name path_depths (at true [] groups) (entries_lines (codes "   ") ks (path_pairs paths) ++ rest)
      ≡ with_lines name path_depths (at true [] (groups ++ map path_group paths)) rest
  unfolding path_lines
  paths_read [] ks rest groups some =
      ap (λ (l : List Group). with_lines name path_depths (at true [] l) rest) (sym (append-nil groups))
  paths_read (path ∷ paths) ks rest groups some =
      let more = entries_lines (codes "   ") ks (path_pairs paths) in
      let close = codes "   }," in
      ap (λ (ls : List (List ℕ)). with_lines name path_depths (at true [] groups) ((ls ++ more) ++ rest))
      (one_path path.0 path.1 some.0)
      ∙ ap (λ (g : Gathered). with_lines name path_depths g (((key_lines path.1 ++ close ∷ []) ++ more) ++ rest))
      (path_line name [] groups (opening path.0) (behind_begins (entry_key (Text path.0)) (codes "{") (key_begins path.0)))
      ∙ ap (with_lines name path_depths (at true [] (groups ++ group [] (opening path.0) [] ∷ [])))
      (regrouped (key_lines path.1) more rest close)
      ∙ keys_read name path.1 (close ∷ (more ++ rest)) [] (opening path.0) [] groups
      ∙ paths_read paths ks rest (groups ++ path_group path ∷ []) some.1
      ∙ ap (λ (l : List Group). with_lines name path_depths (at true [] l) rest)
      (append_assoc groups (path_group path ∷ []) (map path_group paths))

-- ---- tables of rocks

abbrev pub needed : Needs → Datum
needed needs = table_value (needs_pairs needs)

abbrev version_group : List ℕ → List ℕ × Needs → Group
version_group outer version =
    group outer (line_of_version version.0 version.1) (flat_map need_texts version.1)

version_lines : (version : List ℕ) → Needs → List (List ℕ)
version_lines version [] = (codes "      " ++ empty_at version) ∷ []
version_lines version (need ∷ needs) =
    (codes "      " ++ opening version) ∷ (flat_map need_lines (need ∷ needs) ++ codes "      }," ∷ [])

one_version : (version : List ℕ) (needs : Needs)
    → value_lines (codes "      ") (codes "      " ++ entry_key (Text version)) (needed needs) ≡ version_lines version needs
unfolding version_lines
one_version version [] = refl
one_version version (need ∷ needs) =
    ap (λ (ls : List (List ℕ)). (codes "      " ++ opening version) ∷ (ls ++ codes "      }," ∷ [])) (needs_are (need ∷ needs))

regrouped_one : (front rest : List (List ℕ)) (line : List ℕ) → (front ++ line ∷ []) ++ rest ≡ front ++ line ∷ rest
regrouped_one front rest line = simp append_assoc

-- the line of the table of a name
abbrev name_head : List ℕ → Versions → List ℕ
name_head name [] = empty_at name
name_head name (version ∷ versions) = opening name

-- the last such line
abbrev pub last_head : List ℕ → Groups → List ℕ
last_head outer [] = outer
last_head outer (group ∷ groups) = last_head (name_head group.0 group.1) groups

same_rocks : (name : List ℕ) (versions : Versions)
    → map (version_group (opening name)) versions ≡ map rock_group (map (rock_at name) versions)
same_rocks name [] = refl
same_rocks name (version ∷ versions) =
    ap (λ (l : List Group). version_group (opening name) version ∷ l) (same_rocks name versions)

module _ (name : List ℕ) where
  version_read : (version : List ℕ) (needs : Needs) (rest : List (List ℕ)) (outer : List ℕ) (groups : List Group)
      → with_lines name rock_depths (at true outer groups) (version_lines version needs ++ rest)
      ≡ with_lines name rock_depths (at true outer (groups ++ version_group outer (version, needs) ∷ [])) rest
  unfolding version_lines
  version_read version [] rest outer groups =
      ap (λ (g : Gathered). with_lines name rock_depths g rest)
      (version_line name outer groups (empty_at version)
      (behind_begins (entry_key (Text version)) (codes "{},") (key_begins version)))
  version_read version (need ∷ needs) rest outer groups =
      let close = codes "      }," in
      ap (λ (g : Gathered). with_lines name rock_depths g ((flat_map need_lines (need ∷ needs) ++ close ∷ []) ++ rest))
      (version_line name outer groups (opening version)
      (behind_begins (entry_key (Text version)) (codes "{") (key_begins version)))
      ∙ ap (with_lines name rock_depths (at true outer (groups ++ group outer (opening version) [] ∷ [])))
      (regrouped_one (flat_map need_lines (need ∷ needs)) rest close)
      ∙ needs_read name (need ∷ needs) (close ∷ rest) outer (opening version) [] groups

  versions_read : (versions : Versions) (ks : List Key) (rest : List (List ℕ)) (outer : List ℕ) (groups : List Group)
      → with_lines name rock_depths (at true outer groups)
      (entries_lines (codes "      ") ks (version_pairs needed versions) ++ rest)
      ≡ with_lines name rock_depths (at true outer (groups ++ map (version_group outer) versions)) rest
  versions_read [] ks rest outer groups =
      ap (λ (l : List Group). with_lines name rock_depths (at true outer l) rest) (sym (append-nil groups))
  versions_read (version ∷ versions) ks rest outer groups =
      let more = entries_lines (codes "      ") ks (version_pairs needed versions) in
      ap (λ (ls : List (List ℕ)). with_lines name rock_depths (at true outer groups) ((ls ++ more) ++ rest))
      (one_version version.0 version.1)
      ∙ ap (with_lines name rock_depths (at true outer groups)) (append_assoc (version_lines version.0 version.1) more rest)
      ∙ version_read version.0 version.1 (more ++ rest) outer groups
      ∙ versions_read versions ks rest outer (groups ++ version_group outer version ∷ [])
      ∙ ap (λ (l : List Group). with_lines name rock_depths (at true outer l) rest)
      (append_assoc groups (version_group outer version ∷ []) (map (version_group outer) versions))

  name_read : (title : List ℕ) (versions : Versions) (rest : List (List ℕ)) (outer : List ℕ) (groups : List Group)
      → with_lines name rock_depths (at true outer groups)
      (value_lines (codes "   ") (codes "   " ++ entry_key (Text title)) (table_value (version_pairs needed versions)) ++ rest)
      ≡ with_lines name rock_depths
      (at true (name_head title versions) (groups ++ map rock_group (map (rock_at title) versions))) rest
  name_read title [] rest outer groups =
      ap (λ (g : Gathered). with_lines name rock_depths g rest)
      (name_line name outer groups (empty_at title)
      (behind_begins (entry_key (Text title)) (codes "{},") (key_begins title)))
      ∙ ap (λ (l : List Group). with_lines name rock_depths (at true (empty_at title) l) rest) (sym (append-nil groups))
  name_read title (version ∷ versions) rest outer groups =
      let close = codes "   }," in
      let ks = keys (version_pairs needed (version ∷ versions)) in
      let ls = entries_lines (codes "      ") ks (version_pairs needed (version ∷ versions)) in
      ap (λ (g : Gathered). with_lines name rock_depths g ((ls ++ close ∷ []) ++ rest))
      (name_line name outer groups (opening title) (behind_begins (entry_key (Text title)) (codes "{") (key_begins title)))
      ∙ ap (with_lines name rock_depths (at true (opening title) groups)) (regrouped_one ls rest close)
      ∙ versions_read (version ∷ versions) ks (close ∷ rest) (opening title) groups
      ∙ ap (λ (l : List Group). with_lines name rock_depths (at true (opening title) (groups ++ l)) rest)
      (same_rocks title (version ∷ versions))

  pub rocks_read : (all : Groups) (ks : List Key) (rest : List (List ℕ)) (outer : List ℕ) (groups : List Group)
      → with_lines name rock_depths (at true outer groups)
      (entries_lines (codes "   ") ks (group_pairs needed all) ++ rest)
      ≡ with_lines name rock_depths (at true (last_head outer all) (groups ++ map rock_group (rocks_of all))) rest
  rocks_read [] ks rest outer groups =
      ap (λ (l : List Group). with_lines name rock_depths (at true outer l) rest) (sym (append-nil groups))
  rocks_read (one ∷ all) ks rest outer groups =
      let more = entries_lines (codes "   ") ks (group_pairs needed all) in
      let here = map rock_group (map (rock_at one.0) one.1) in
      ap (with_lines name rock_depths (at true outer groups))
      (append_assoc (value_lines (codes "   ") (codes "   " ++ entry_key (Text one.0)) (table_value (version_pairs needed one.1)))
      more rest)
      ∙ name_read one.0 one.1 (more ++ rest) outer groups
      ∙ rocks_read all ks rest (name_head one.0 one.1) (groups ++ here)
      ∙ ap (λ (l : List Group). with_lines name rock_depths (at true (last_head (name_head one.0 one.1) all) l) rest)
      (append_assoc groups here (map rock_group (rocks_of all))
      ∙ ap (λ (l : List Group). groups ++ l) (sym (map-append rock_group (map (rock_at one.0) one.1) (rocks_of all))))
