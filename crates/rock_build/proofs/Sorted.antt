-- Files that were put in order are those that were found, each at a place of its own.
use Rattle.std.proofs.Common.{◌≡◌, ◌≢◌, ◌<◌, ℕ, List, Some, map, sym, ap, ◌∙◌, ⊎_elim}
use Rattle.std.specs.Prelude.{slice_get}
use Rattle.std.specs.Option.{option_map}
use Rattle.std.specs.Cmp.{IsTotalOrder}
use Rattle.std.specs.List.{AllPairs, Contains}
use Rattle.std.specs.List.Sorted.{IsPermutation, IsSortedByKey, IsStrictlySortedBy}
use Rattle.std.specs.declared.cmp.Ordering.{Ordering}
use Rattle.std.specs.declared.cmp.Ordering.TheVariants.{Equal}
use Rattle.std.proofs.lemmas.Bool.{cases_order}
use Rattle.std.proofs.lemmas.List.Sorted.{Contains-permutation, IsPermutation-map, IsPermutation-sym}
use Rattle.std.proofs.lemmas.Option.{get_or_from_slice_get, slice_get-map, slice_get_within}
use Rattle.rocks_text.specs.Items.{item_cmp}
use Rattle.rocks_text.specs.declared.item.Item.{Item}
use Rattle.build_targets.specs.declared.target.Dest.TheVariants as dests
use Rattle.build_plan.proofs.DestOrder.{dest_equal}
use Rattle.build_plan.proofs.Planned.{keys_rise}
use Rattle.twofold_paths.proofs.Moved.{StandApart, moved_apart}
use Rattle.rock_record.specs.Made.{AreBesideBoth, AreItemsApart, ArePathsApart}

pub item_equal : (x y : Item) → item_cmp x y ≡ Equal → x ≡ y
item_equal x y e = let same : dests.Item x ≡ dests.Item y = dest_equal (dests.Item x) (dests.Item y) e in cc

-- elements at two places of a list whose elements differ
differ_at : {K : Type 0} (ks : List K) → AllPairs (λ k l. k ≢ l) ks → (i j : ℕ) (k l : K) → i < j → slice_get ks i ≡ Some k → slice_get ks j ≡ Some l → k ≢ l
differ_at ks differ i j k l below is is_too same =
    differ i j k below (slice_get_within ks j l is_too) (get_or_from_slice_get ks i k k is ∙ same ∙ sym (get_or_from_slice_get ks j l k is_too))

module _ {K B : Type 0} (found files : List (K × B)) (moved : IsPermutation found files) where
  abbrev key_of : K × B → K
  key_of file = file.0

  key_at : (i : ℕ) (file : K × B) → slice_get found i ≡ Some file → slice_get (map key_of found) i ≡ Some file.0
  key_at i file is = slice_get-map key_of found i ∙ ap (option_map key_of) is

  pub apart : AllPairs (λ k l. k ≢ l) (map key_of found) → (x y : K × B) → StandApart files x y → x.0 ≢ y.0
  apart differ x y two same =
      let back = moved_apart files found x y (IsPermutation-sym found files moved) two in
      let ks = map key_of found in
      ⊎_elim (λ e. back.apart e) (⊎_elim
      (λ less. differ_at ks differ back.first back.second x.0 y.0 less (key_at back.first x back.is_first) (key_at back.second y back.is_second) same)
      (λ more. differ_at ks differ back.second back.first y.0 x.0 more (key_at back.second y back.is_second) (key_at back.first x back.is_first) (sym same))) (cases_order back.first back.second)

  pub strictly : {R : K → K → Ordering} → IsTotalOrder R → ((x y : K) → R x y ≡ Equal → x ≡ y) → IsSortedByKey (λ (file : K × B). file.0) R files → AllPairs (λ k l. k ≢ l) (map key_of found) → IsStrictlySortedBy R (map (λ (file : K × B). file.0) files)
  strictly total equal up differ = keys_rise total equal key_of files up (apart differ)

  pub there : (file : K × B) → Contains files file → Contains found file
  there file has = Contains-permutation files found file (IsPermutation-sym found files moved) has

  pub here : (file : K × B) → Contains found file → Contains files file
  here file has = Contains-permutation found files file moved has

  pub key_there : (key : K) → Contains (map key_of files) key → Contains (map key_of found) key
  key_there key has = Contains-permutation (map key_of files) (map key_of found) key (IsPermutation-sym (map key_of found) (map key_of files) (IsPermutation-map key_of found files moved)) has

-- what holds of the paths that were found holds of those in order
pub items_apart : (items others : List Item) → ((item : Item) → Contains others item → Contains items item) → AreItemsApart items → AreItemsApart others
items_apart items others within apart_all = λ item other has has_too. apart_all item other (within item has) (within other has_too)

pub paths_apart : (paths others : List (List ℕ)) → ((path : List ℕ) → Contains others path → Contains paths path) → ArePathsApart paths → ArePathsApart others
paths_apart paths others within apart_all = λ path other has has_too. apart_all path other (within path has) (within other has_too)

pub beside_both : (rockspec : List ℕ) (paths others : List (List ℕ)) → ((path : List ℕ) → Contains others path → Contains paths path) → AreBesideBoth rockspec paths → AreBesideBoth rockspec others
beside_both rockspec paths others within beside = λ path has. beside path (within path has)
