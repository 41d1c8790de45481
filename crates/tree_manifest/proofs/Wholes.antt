-- What is gathered of the text of a view.
use Rattle.std.proofs.Common.{◌≡◌, ◌≢◌, ℕ, List, [], ◌∷◌, ◌++◌, refl, sym, ap, ◌∙◌, subst, true, false, codes, append_assoc, append-nil, map}
use Rattle.std.specs.List.{list_all, All, AllByRecursion}
use Rattle.std.specs.List.Sorted.{IsPermutation}
use Rattle.std.proofs.lemmas.List.Elements.{All-head, All-tail, recursion_from_All}
use Rattle.std.proofs.lemmas.List.Sorted.{All-permutation}
use Rattle.lua_value.specs.declared.key.Key.{Key}
use Rattle.lua_value.specs.declared.key.Key.TheVariants.{Text}
use Rattle.lua_value.specs.Pairs.{Datum, Pairs, keys, no_pairs, table_value, text_value, with_pair}
use Rattle.manifest_text.specs.Text.{dependencies_of, installed, key_text, manifest_text, need_pairs, provided_pairs, repository_of}
use Rattle.manifest_text.specs.Views.{AreProvided, IsPath, IsRockKey, IsView, IsWanted}
use Rattle.manifest_text.specs.declared.view.ManifestView.{ManifestView}
use Rattle.manifest_text.specs.declared.view.ViewRock.{ViewRock}
use Rattle.rocks_constraint.specs.Wanted.{Wanted}
use Rattle.rocks_text.specs.Texts.{is_name}
use Rattle.rocks_version.specs.declared.key.RockKey.{RockKey}
use Rattle.rock_manifest.proofs.Pieces.{has_no_feed, path_bytes}
use Rattle.rock_manifest.proofs.Spelling.{lined}
use Rattle.tree_manifest.specs.declared.groups.Depths.{Depths}
use Rattle.tree_manifest.specs.Forms.{path_group, rock_group}
use Rattle.tree_manifest.specs.Found.{path_depths, rock_depths, AreRocks}
use Rattle.tree_manifest.specs.Reading.{groups_under, lines, with_lines}
use Rattle.tree_manifest.proofs.Bytes.{key_bytes, name_bytes, version_bytes, wanted_bytes}
use Rattle.tree_manifest.proofs.Gathered.{needed}
use Rattle.tree_manifest.proofs.Filled.{filled}
use Rattle.tree_manifest.proofs.Grouped.{group_pairs, rock_at, rocks_of, version_pairs, AreSome, Groups, Needs, Versions}
use Rattle.tree_manifest.proofs.Lined.{lined_both, section_lined, section_lines, split}
use Rattle.tree_manifest.proofs.Listed.{list_plain}
use Rattle.tree_manifest.proofs.Pathed.{path_pairs, paths_in_order, Paths}
use Rattle.tree_manifest.proofs.Plain.{both_have_none, key_has_no_feed, plain_section, ArePlain, IsPlain}
use Rattle.tree_manifest.proofs.Sections.{commands_found, dependencies_found, five, libs_found, modules_found}
use Rattle.tree_manifest.proofs.Steps.{at}

abbrev IsNeed : Wanted × RockKey → Type 0
IsNeed need = IsWanted need.0 × IsRockKey need.1

abbrev HasKey : ViewRock → Type 0
HasKey rock = IsRockKey rock.key

abbrev HasNeeds : ViewRock → Type 0
HasNeeds rock = All IsNeed rock.dependencies

-- ---- no line feed

keys_plain : (keys : List RockKey) → All IsRockKey keys
    → AllByRecursion IsPlain (map (λ key. text_value (key_text key)) keys)
keys_plain [] all = tt
keys_plain (key ∷ keys) all =
    (key_bytes key (All-head IsRockKey key keys all), keys_plain keys (All-tail IsRockKey key keys all))

paths_plain : (ks : List Key) (paths : Paths) → All (λ path. IsPath path.0) paths
    → All (λ path. All IsRockKey path.1) paths → ArePlain ks (path_pairs paths)
paths_plain ks [] are have = tt
paths_plain ks (path ∷ paths) are have = (
  key_has_no_feed path.0 (path_bytes path.0 (All-head (λ p. IsPath p.0) path paths are).0),
  list_plain (map (λ key. text_value (key_text key)) path.1)
      (keys_plain path.1 (All-head (λ p. All IsRockKey p.1) path paths have)),
  paths_plain ks paths (All-tail (λ p. IsPath p.0) path paths are) (All-tail (λ p. All IsRockKey p.1) path paths have),
)

one_plain : (need : Wanted × RockKey) → IsNeed need → IsPlain (table_value (need_pairs need))
one_plain need is = (
  key_has_no_feed (codes "met") refl,
  key_bytes need.1 is.1,
  (key_has_no_feed (codes "needs") refl, wanted_bytes need.0 is.0, tt),
)

all_plain : (needs : Needs) → All IsNeed needs
    → AllByRecursion IsPlain (map (λ need. table_value (need_pairs need)) needs)
all_plain [] all = tt
all_plain (need ∷ needs) all =
    (one_plain need (All-head IsNeed need needs all), all_plain needs (All-tail IsNeed need needs all))

needed_plain : (needs : Needs) → All IsNeed needs → IsPlain (needed needs)
needed_plain needs all = list_plain (map (λ need. table_value (need_pairs need)) needs) (all_plain needs all)

installed_plain : IsPlain (table_value installed)
installed_plain =
    list_plain (table_value (with_pair (Text (codes "arch")) (text_value (codes "installed")) no_pairs) ∷ [])
    ((key_has_no_feed (codes "arch") refl, refl, tt), tt)

all_behind : (P : ViewRock → Type 0) (front back : List ViewRock) → All P (front ++ back) → All P back
all_behind P [] back all = all
all_behind P (rock ∷ front) back all = all_behind P front back (All-tail P rock (front ++ back) all)

name_of : (name : List ℕ) (versions : Versions) (rest : List ViewRock) → versions ≢ []
    → All HasKey (map (rock_at name) versions ++ rest) → is_name name ≡ true
name_of name [] rest some all = absurd (some refl)
name_of name (version ∷ versions) rest some all =
    (All-head HasKey (rock_at name version) (map (rock_at name) versions ++ rest) all).0

module _ (value : Needs → Datum) (plain : (needs : Needs) → All IsNeed needs → IsPlain (value needs)) where
  versions_plain : (ks : List Key) (name : List ℕ) (versions : Versions) (rest : List ViewRock)
      → All HasKey (map (rock_at name) versions ++ rest) → All HasNeeds (map (rock_at name) versions ++ rest)
      → ArePlain ks (version_pairs value versions)
  versions_plain ks name [] rest are have = tt
  versions_plain ks name (version ∷ versions) rest are have =
      let more = map (rock_at name) versions ++ rest in (
        key_has_no_feed version.0 (version_bytes version.0 (All-head HasKey (rock_at name version) more are).1),
        plain version.1 (All-head HasNeeds (rock_at name version) more have),
        versions_plain ks name versions rest (All-tail HasKey (rock_at name version) more are)
            (All-tail HasNeeds (rock_at name version) more have),
      )

  groups_plain : (ks : List Key) (groups : Groups) → AreSome groups → All HasKey (rocks_of groups)
      → All HasNeeds (rocks_of groups) → ArePlain ks (group_pairs value groups)
  groups_plain ks [] some are have = tt
  groups_plain ks (group ∷ groups) some are have =
      let front = map (rock_at group.0) group.1 in (
        key_has_no_feed group.0 (name_bytes group.0 (name_of group.0 group.1 (rocks_of groups) some.0 are)),
        versions_plain (keys (version_pairs value group.1)) group.0 group.1 (rocks_of groups) are have,
        groups_plain ks groups some.1 (all_behind HasKey front (rocks_of groups) are)
            (all_behind HasNeeds front (rocks_of groups) have),
      )

-- ---- the text by its lines

abbrev spelled : List ℕ → Pairs → List ℕ → List ℕ
spelled title ps rest = lined (section_lines title ps) ++ rest

joined : (front back : List (List ℕ)) (text : List ℕ) → lined back ≡ text → lined (front ++ back) ≡ lined front ++ text
joined front back text e = lined_both front back ∙ ap (λ (t : List ℕ). lined front ++ t) e

five_lined : (c d l m r : Pairs)
    → lined (five c d l m r [])
    ≡ spelled (codes "commands") c (spelled (codes "dependencies") d (spelled (codes "libs") l
    (spelled (codes "modules") m (spelled (codes "repository") r []))))
five_lined c d l m r =
    joined (section_lines (codes "commands") c) _ _ (joined (section_lines (codes "dependencies") d) _ _
    (joined (section_lines (codes "libs") l) _ _ (joined (section_lines (codes "modules") m) _ _
    (joined (section_lines (codes "repository") r) [] [] refl))))

text_lined : (whole : ManifestView)
    → manifest_text whole
    ≡ lined (five (provided_pairs whole.commands) (dependencies_of whole.rocks) (provided_pairs whole.libs)
    (provided_pairs whole.modules) (repository_of whole.rocks) [])
unfolding manifest_text
text_lined whole =
    let c = provided_pairs whole.commands in
    let d = dependencies_of whole.rocks in
    let l = provided_pairs whole.libs in
    let m = provided_pairs whole.modules in
    let r = repository_of whole.rocks in
    section_lined (codes "commands") c _
    ∙ ap (spelled (codes "commands") c) (section_lined (codes "dependencies") d _
    ∙ ap (spelled (codes "dependencies") d) (section_lined (codes "libs") l _
    ∙ ap (spelled (codes "libs") l) (section_lined (codes "modules") m _
    ∙ ap (spelled (codes "modules") m) (section_lined (codes "repository") r []))))
    ∙ sym (five_lined c d l m r)

regrouped : (a b c d e rest : List (List ℕ)) → (a ++ (b ++ (c ++ (d ++ (e ++ []))))) ++ rest
    ≡ a ++ (b ++ (c ++ (d ++ (e ++ rest))))
regrouped a b c d e rest = simp (append_assoc, append-nil)

none_in_five : (c d l m r : Pairs) → ArePlain (keys c) c → ArePlain (keys d) d → ArePlain (keys l) l
    → ArePlain (keys m) m → ArePlain (keys r) r → list_all has_no_feed (five c d l m r []) ≡ true
none_in_five c d l m r cs ds ls ms rs =
    both_have_none (section_lines (codes "commands") c) _ (plain_section (codes "commands") c refl cs)
    (both_have_none (section_lines (codes "dependencies") d) _ (plain_section (codes "dependencies") d refl ds)
    (both_have_none (section_lines (codes "libs") l) _ (plain_section (codes "libs") l refl ls)
    (both_have_none (section_lines (codes "modules") m) _ (plain_section (codes "modules") m refl ms)
    (both_have_none (section_lines (codes "repository") r) [] (plain_section (codes "repository") r refl rs) refl))))

five_alike : (c d l m r c' d' l' m' r' : Pairs) → c ≡ c' → d ≡ d' → l ≡ l' → m ≡ m' → r ≡ r'
    → five c d l m r [] ≡ five c' d' l' m' r' []
five_alike c d l m r c' d' l' m' r' e f g h k = λ i. five (e i) (f i) (g i) (h i) (k i) []

-- ---- what is gathered

pub record IsGathered (whole : ManifestView) (bytes : List ℕ) : Type 0 where
  pub commands : groups_under (codes "commands") path_depths bytes ≡ map path_group whole.commands
  pub libs : groups_under (codes "libs") path_depths bytes ≡ map path_group whole.libs
  pub modules : groups_under (codes "modules") path_depths bytes ≡ map path_group whole.modules
  pub rocks : List ViewRock
  pub dependencies : groups_under (codes "dependencies") rock_depths bytes ≡ map rock_group rocks
  pub same : IsPermutation whole.rocks rocks
  pub good : AreRocks rocks

-- the tables with their keys in order
record InOrder (whole : ManifestView) : Type 0 where
  all : Groups
  others : Groups
  dependencies : dependencies_of whole.rocks ≡ group_pairs needed all
  repository : repository_of whole.rocks ≡ group_pairs (λ _. table_value installed) others
  same : IsPermutation whole.rocks (rocks_of all)
  some : AreSome all
  same_others : IsPermutation whole.rocks (rocks_of others)
  some_others : AreSome others

in_order : (whole : ManifestView) → IsView whole → InOrder whole
in_order whole is =
    let needs = filled needed whole.rocks is.rocks in
    let names = filled (λ _. table_value installed) whole.rocks is.rocks in
    let none : whole.rocks ++ [] ≡ whole.rocks = append-nil whole.rocks in
    record {
      all = needs.after;
      others = names.after;
      dependencies = needs.pairs;
      repository = names.pairs;
      same = subst (λ (l : List ViewRock). IsPermutation l (rocks_of needs.after)) none needs.same;
      some = needs.some tt;
      same_others = subst (λ (l : List ViewRock). IsPermutation l (rocks_of names.after)) none names.same;
      some_others = names.some tt;
    }

module _ (whole : ManifestView) (is : IsView whole) (o : InOrder whole) where
  abbrev lines_from : List (List ℕ) → List (List ℕ)
  lines_from rest =
      five (path_pairs whole.commands) (group_pairs needed o.all) (path_pairs whole.libs) (path_pairs whole.modules)
      (group_pairs (λ _. table_value installed) o.others) rest

  no_feed_in_them : list_all has_no_feed (lines_from []) ≡ true
  no_feed_in_them =
      let paths = λ (l : Paths) (p : AreProvided l). paths_plain (keys (path_pairs l)) l p.are_paths p.are_keys in
      none_in_five (path_pairs whole.commands) (group_pairs needed o.all) (path_pairs whole.libs)
      (path_pairs whole.modules) (group_pairs (λ _. table_value installed) o.others)
      (paths whole.commands is.commands)
      (groups_plain needed needed_plain (keys (group_pairs needed o.all)) o.all o.some
      (All-permutation HasKey whole.rocks (rocks_of o.all) o.same is.are_keys)
      (All-permutation HasNeeds whole.rocks (rocks_of o.all) o.same is.are_wanted))
      (paths whole.libs is.libs) (paths whole.modules is.modules)
      (groups_plain (λ _. table_value installed) (λ _ _. installed_plain)
      (keys (group_pairs (λ _. table_value installed) o.others)) o.others o.some_others
      (All-permutation HasKey whole.rocks (rocks_of o.others) o.same_others is.are_keys)
      (All-permutation HasNeeds whole.rocks (rocks_of o.others) o.same_others is.are_wanted))

  lines_are : lines (manifest_text whole) ≡ lines_from ([] ∷ [])
  lines_are =
      ap lines (text_lined whole ∙ ap lined
      (five_alike _ _ _ _ _ _ _ _ _ _ (paths_in_order whole.commands is.commands.in_order) o.dependencies
      (paths_in_order whole.libs is.libs.in_order) (paths_in_order whole.modules is.modules.in_order) o.repository))
      ∙ split (lines_from []) no_feed_in_them
      ∙ regrouped (section_lines (codes "commands") (path_pairs whole.commands))
      (section_lines (codes "dependencies") (group_pairs needed o.all))
      (section_lines (codes "libs") (path_pairs whole.libs)) (section_lines (codes "modules") (path_pairs whole.modules))
      (section_lines (codes "repository") (group_pairs (λ _. table_value installed) o.others)) ([] ∷ [])

  text_gathered : IsGathered whole (manifest_text whole)
  text_gathered =
      let c = path_pairs whole.commands in
      let d = group_pairs needed o.all in
      let l = path_pairs whole.libs in
      let m = path_pairs whole.modules in
      let r = group_pairs (λ _. table_value installed) o.others in
      let some = λ (paths : Paths) (p : AreProvided paths). recursion_from_All (λ path. path.1 ≢ []) paths p.some in
      let read = λ (name : List ℕ) (depths : Depths).
      ap (λ (ls : List (List ℕ)). (with_lines name depths (at false [] []) ls).groups) lines_are in
      record {
        commands = read (codes "commands") path_depths
            ∙ commands_found whole.commands (some whole.commands is.commands) d l m r;
        libs = read (codes "libs") path_depths ∙ libs_found whole.libs (some whole.libs is.libs) c d m r;
        modules = read (codes "modules") path_depths
            ∙ modules_found whole.modules (some whole.modules is.modules) c d l r;
        rocks = rocks_of o.all;
        dependencies = read (codes "dependencies") rock_depths ∙ dependencies_found o.all c l m r;
        same = o.same;
        good = record {
          are_keys = All-permutation HasKey whole.rocks (rocks_of o.all) o.same is.are_keys;
          are_wanted = All-permutation HasNeeds whole.rocks (rocks_of o.all) o.same is.are_wanted;
        };
      }

pub gathered_of : (whole : ManifestView) → IsView whole → IsGathered whole (manifest_text whole)
gathered_of whole is = text_gathered whole is (in_order whole is)
