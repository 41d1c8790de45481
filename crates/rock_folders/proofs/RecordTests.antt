-- What the tests of a record tell.
use Rattle.std.proofs.Common.{◌≡◌, ◌+◌, ◌≤◌, ℕ, zero, suc, ◌||◌, not, true, false, Bool, cond, List, [], ◌∷◌, ◌++◌, length, map, codes, refl, sym, ap, ◌∙◌, subst, Some, None, IsTrue, ◌==◌, arith, nat_le, append_assoc}
use Rattle.std.specs.Prelude.{◌↔◌, Contains, Option, MatchOption, is_some}
use Rattle.std.specs.List.{filter, list_any}
use Rattle.std.specs.Ordering.{is_eq}
use Rattle.std.specs.Str.{bytes_eq}
use Rattle.std.proofs.lemmas.Bool.{and_from}
use Rattle.std.proofs.lemmas.Bool.Decides.{nat_tests}
use Rattle.std.proofs.lemmas.List.Folds.{list_all-append}
use Rattle.std.proofs.lemmas.Map.Text.{is_eq-slice_cmp}
use Rattle.std.proofs.lemmas.Slice.Eq.{bytes_eq-Decides}
use Rattle.rocks_text.specs.Files.{path_cmp}
use Rattle.rocks_text.specs.Texts.{is_name}
use Rattle.rocks_text.specs.declared.item.Item.{Item}
use Rattle.rocks_version.specs.Keys.{rockspec_name}
use Rattle.rocks_version.specs.Texts.{is_version}
use Rattle.rocks_version.specs.declared.key.RockKey.{RockKey}
use Rattle.rock_manifest.proofs.Again.{one_text}
use Rattle.rock_manifest.specs.Records.{IsRecord}
use Rattle.rock_manifest.specs.Text.{record_text}
use Rattle.rock_manifest.specs.declared.record.Record.{Record}
use Rattle.rock_record.specs.declared.limits.TheConstants.{MOST_FILES}
use Rattle.tree_sets.proofs.Folders.{has_no_slash, name_slashless, version_slashless}
use Rattle.twofold_paths.specs.Places.{IsLeastTwofoldPath, IsTwofoldPath}
use Rattle.twofold_paths.specs.declared.place.Place.{Place}
use Rattle.rock_folders.specs.Folders.{own_beside, IsRecordOf}
use Rattle.rock_folders.specs.Steps.{item_place, own_place, places_of, IsNoRecordOf}
use Rattle.rock_folders.proofs.RecordPaths.{from_entry, row, to_entry}

abbrev File : Type 0
File = List ℕ × List ℕ

abbrev paths_in : List File → List (List ℕ)
paths_in own = map (λ file. file.0) own

-- ---- places

mapped_twice : {X Y Z : Type 0} (f : X → Y) (xs : List (X × Z)) → map (λ file. f file.0) xs ≡ map f (map (λ file. file.0) xs)
mapped_twice f [] = refl
mapped_twice f (x ∷ xs) = ap (λ l. f x.0 ∷ l) (mapped_twice f xs)

pub places_are : (whole : Record) → places_of whole ≡ row (map (λ file. file.0) whole.items) (map (λ file. file.0) whole.own)
places_are whole =
    ap (λ (l : List Place). l ++ (map (λ file. own_place file.0) whole.own ++ own_place (codes "rock_manifest") ∷ [])) (mapped_twice item_place whole.items)
    ∙ ap (λ (l : List Place). map item_place (map (λ file. file.0) whole.items) ++ (l ++ own_place (codes "rock_manifest") ∷ [])) (mapped_twice own_place whole.own)

pub joined_places : (items both now : List Place) (place : Place) (of_items of_own : List Place) (last : Place) → now ≡ both ++ place ∷ [] → both ≡ items ++ of_own → items ≡ of_items
    → place ≡ last → now ≡ of_items ++ (of_own ++ last ∷ [])
joined_places items both now place of_items of_own last is is_both is_items is_last =
    is ∙ ap (λ (l : List Place). l ++ place ∷ []) (is_both ∙ ap (λ (l : List Place). l ++ of_own) is_items)
    ∙ append_assoc of_items of_own (place ∷ []) ∙ ap (λ (p : Place). of_items ++ (of_own ++ p ∷ [])) is_last

pub none_found : (places of_whole : List Place) (found : Option (List ℕ)) (apart : Bool) → places ≡ of_whole → is_some found ≡ not apart
    → MatchOption found ((path : List ℕ) → ¬ (IsTwofoldPath places path)) (IsLeastTwofoldPath places) → IsTrue apart ↔ ((path : List ℕ) → ¬ (IsTwofoldPath of_whole path))
none_found places of_whole None true same is answer = (λ _. subst (λ (l : List Place). (path : List ℕ) → ¬ (IsTwofoldPath l path)) same answer, λ _. refl)
none_found places of_whole None false same is answer = absurd cc
none_found places of_whole (Some path) true same is answer = absurd cc
none_found places of_whole (Some path) false same is answer = (
  λ clash. absurd cc,
  λ none. absurd (none path (subst (λ (l : List Place). IsTwofoldPath l path) same answer.is)),
)

-- ---- the rockspec among the own files

hits : (rockspec path : List ℕ) → is_eq (path_cmp path rockspec) ≡ true → path ≡ rockspec
hits rockspec path hit = (bytes_eq-Decides path rockspec).0 (sym (is_eq-slice_cmp path rockspec) ∙ hit)

hit_by : (rockspec path : List ℕ) → path ≡ rockspec → is_eq (path_cmp path rockspec) ≡ true
hit_by rockspec path same = is_eq-slice_cmp path rockspec ∙ (bytes_eq-Decides path rockspec).1 same

or_right : (b c : Bool) → c ≡ true → (b || c) ≡ true
or_right true c e = refl
or_right false c e = e

or_left : (b c : Bool) → b ≡ true → (b || c) ≡ true
or_left true c e = refl
or_left false c e = cc

named_by : (rockspec : List ℕ) (file : File) (own : List File) (b : Bool) → is_eq (path_cmp file.0 rockspec) ≡ b
    → (b || list_any (λ f. is_eq (path_cmp f.0 rockspec)) own) ≡ true
    → (list_any (λ f. is_eq (path_cmp f.0 rockspec)) own ≡ true → Contains (paths_in own) rockspec) → Contains (paths_in (file ∷ own)) rockspec
named_by rockspec file own true hit some later = (0, omega arith, hits rockspec file.0 hit)
named_by rockspec file own false missed some later = let rest = later some in (suc rest.0, omega (arith, rest.1), rest.2)

pub named : (rockspec : List ℕ) (own : List File) → list_any (λ file. is_eq (path_cmp file.0 rockspec)) own ≡ true → Contains (paths_in own) rockspec
named rockspec [] some = absurd cc
named rockspec (file ∷ own) some = named_by rockspec file own (is_eq (path_cmp file.0 rockspec)) refl some (named rockspec own)

pub test_named : (rockspec : List ℕ) (own : List File) → Contains (paths_in own) rockspec → list_any (λ file. is_eq (path_cmp file.0 rockspec)) own ≡ true
test_named rockspec [] (k, within, is) = absurd (omega arith)
test_named rockspec (file ∷ own) (zero, within, is) =
    or_left (is_eq (path_cmp file.0 rockspec)) (list_any (λ f. is_eq (path_cmp f.0 rockspec)) own) (hit_by rockspec file.0 is)
test_named rockspec (file ∷ own) (suc k, within, is) =
    or_right (is_eq (path_cmp file.0 rockspec)) (list_any (λ f. is_eq (path_cmp f.0 rockspec)) own) (test_named rockspec own (k, omega arith, is))

beside_count : (rockspec : List ℕ) (own : List File)
    → length (filter (λ file. not (is_eq (path_cmp file.0 rockspec))) own) ≡ length (filter (λ path. not (bytes_eq path rockspec)) (paths_in own))
beside_count rockspec [] = refl
beside_count rockspec (file ∷ own) =
    rw (is_eq-slice_cmp file.0 rockspec)
    (elim (bytes_eq file.0 rockspec) as
    (λ t. length (cond (not t) (file ∷ filter (λ f. not (is_eq (path_cmp f.0 rockspec))) own) (filter (λ f. not (is_eq (path_cmp f.0 rockspec))) own))
    ≡ length (cond (not t) (file.0 ∷ filter (λ path. not (bytes_eq path rockspec)) (paths_in own)) (filter (λ path. not (bytes_eq path rockspec)) (paths_in own)))) [
      | true ↦ beside_count rockspec own
      | false ↦ ap (λ (n : ℕ). suc n) (beside_count rockspec own)
    ])

-- ---- the record of the rock

module _ (key : RockKey) (whole : Record) where
  abbrev rockspec : List ℕ
  rockspec = rockspec_name key.name key.version

  abbrev items : List Item
  items = map (λ file. file.0) whole.items

  few_of : nat_le (length whole.items + length (filter (λ file. not (is_eq (path_cmp file.0 rockspec))) whole.own)) MOST_FILES ≡ true
      → length whole.items + length (own_beside key whole) ≤ MOST_FILES
  few_of few = let same = beside_count rockspec whole.own in grind (arith, nat_tests)

  of_few : length whole.items + length (own_beside key whole) ≤ MOST_FILES
      → nat_le (length whole.items + length (filter (λ file. not (is_eq (path_cmp file.0 rockspec))) whole.own)) MOST_FILES ≡ true
  of_few few = let same = beside_count rockspec whole.own in grind (arith, nat_tests)

  slashless : IsTrue (is_name key.name) → IsTrue (is_version key.version) → has_no_slash rockspec ≡ true
  slashless is_named is_versioned =
      let free = λ (b : ℕ). not (b == 47) in
      list_all-append free key.name (codes "-" ++ (key.version ++ codes ".rockspec"))
      ∙ and_from _ _ (name_slashless key.name is_named) (list_all-append free key.version (codes ".rockspec") ∙ and_from _ _ (version_slashless key.version is_versioned) refl)

  -- all tests passed but the last, which tells it
  pub is_one : IsRecord whole → IsTrue (is_name key.name) → IsTrue (is_version key.version) → (path : List ℕ) → path ≡ rockspec
      → list_any (λ file. is_eq (path_cmp file.0 path)) whole.own ≡ true
      → nat_le (length whole.items + length (filter (λ file. not (is_eq (path_cmp file.0 path))) whole.own)) MOST_FILES ≡ true
      → (apart : Bool) → IsTrue apart ↔ ((path : List ℕ) → ¬ (IsTwofoldPath (places_of whole) path)) → IsTrue apart ↔ IsRecordOf key whole
  is_one is is_named is_versioned path path_is has few apart tells =
      let has_it = named rockspec whole.own (subst (λ (p : List ℕ). list_any (λ file. is_eq (path_cmp file.0 p)) whole.own ≡ true) path_is has) in
      let few_files = few_of (subst (λ (p : List ℕ). nat_le (length whole.items + length (filter (λ file. not (is_eq (path_cmp file.0 p))) whole.own)) MOST_FILES ≡ true) path_is few) in
      let own = paths_in whole.own in
      let free = slashless is_named is_versioned in (
        λ passed. record {
          is = is;
          rockspec = has_it;
          entry = to_entry items own key [] has_it free is.items is.own
              (subst (λ (l : List Place). (p : List ℕ) → ¬ (IsTwofoldPath l p)) (places_are whole) (tells.0 passed));
          few = few_files;
        },
        λ one. tells.1 (λ p two. from_entry items own key [] has_it free is.items is.own one.entry p
            (subst (λ (l : List Place). IsTwofoldPath l p) (places_are whole) two)),
      )

  -- a test failed
  pub none_named : (path : List ℕ) → path ≡ rockspec → list_any (λ file. is_eq (path_cmp file.0 path)) whole.own ≡ false → IsTrue false ↔ IsRecordOf key whole
  none_named path path_is missed = (
    λ clash. absurd cc,
    λ one. let has = test_named rockspec whole.own one.rockspec in
        let other = subst (λ (p : List ℕ). list_any (λ file. is_eq (path_cmp file.0 p)) whole.own ≡ false) path_is missed in
        absurd (let both = sym has ∙ other in cc),
  )

  pub too_many : (path : List ℕ) → path ≡ rockspec
      → nat_le (length whole.items + length (filter (λ file. not (is_eq (path_cmp file.0 path))) whole.own)) MOST_FILES ≡ false → IsTrue false ↔ IsRecordOf key whole
  too_many path path_is many = (
    λ clash. absurd cc,
    λ one. let few = of_few one.few in
        let other = subst (λ (p : List ℕ). nat_le (length whole.items + length (filter (λ file. not (is_eq (path_cmp file.0 p))) whole.own)) MOST_FILES ≡ false) path_is many in
        absurd (let both = sym few ∙ other in cc),
  )

-- the bytes of a record that isn't the rock's are the text of no other one
pub none_other : (key : RockKey) (bytes : List ℕ) (whole : Record) (tested : Bool) → IsRecord whole → bytes ≡ record_text whole
    → IsTrue tested ↔ IsRecordOf key whole → tested ≡ false → IsNoRecordOf key bytes
none_other key bytes whole tested is text tells failed = λ other is_other same.
    let one : other ≡ whole = one_text other whole is_other.is is (same ∙ text) in
    let passed = tells.1 (subst (IsRecordOf key) one is_other) in
    let clash = sym passed ∙ failed in
    absurd cc
