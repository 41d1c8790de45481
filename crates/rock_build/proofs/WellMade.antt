-- A rock with the files that were gathered for its rockspec is the rock, and is well made.
use Rattle.std.proofs.Common.{◌≡◌, ◌≢◌, ◌≤◌, ◌+◌, ℕ, List, [], ◌∷◌, length, map, refl, sym, ap, ◌∙◌, subst, arith, length-append}
use Rattle.std.proofs.lemmas.Cmp.{nat_list_cmp_total}
use Rattle.std.proofs.lemmas.List.{length-map}
use Rattle.std.proofs.lemmas.List.Elements.{All-append}
use Rattle.std.proofs.lemmas.List.Sorted.{length_permutation, sum_by-IsPermutation}
use Rattle.std.proofs.lemmas.List.Sums.{sum-map, sum_by-append, sum_by-cons}
use Rattle.std.proofs.lemmas.Map.Views.{All-map-IsPermutation}
use Rattle.std.specs.List.{AllPairs, Contains, filter_map, sum, sum_by}
use Rattle.rocks_text.specs.declared.item.Item.{Item}
use Rattle.rock_manifest.proofs.Orders.{item_total}
use Rattle.rockspec.specs.Specs.{IsSpec}
use Rattle.rockspec.specs.declared.read.Rockspec.{Rockspec}
use Rattle.twofold_paths.proofs.PlaceOrder.{equal_paths}
use Rattle.rock_record.specs.declared.limits.TheConstants.{MOST_FILES, MOST_BYTES}
use Rattle.rock_record.specs.declared.rock.Rock.{Rock}
use Rattle.rock_record.specs.Made.{contents_of, items_of, own_paths_of, HasGoodPaths, IsWithinLimits}
use Rattle.rock_parts.specs.Parts.{items_made, own_paths_made}
use Rattle.rock_steps.specs.Steps.{AreGood}
use Rattle.rock_files.specs.Gathering.{item_of, own_of, AreFilesOf, Found, NoneFails}
use Rattle.rock_files.specs.declared.gathering.Gathered.{Gathered}
use Rattle.rock_build.specs.Contents.{rockspec_of, IsRockOf, Makes}
use Rattle.rock_build.specs.Making.{rock_with}
use Rattle.rock_build.proofs.FilesFound.{all_short, bytes_within, count_within, few, item_keys, own_keys, short_items, short_own, size, small, IsShort}
use Rattle.rock_build.proofs.Sorted.{beside_both, here, item_equal, items_apart, key_there, paths_apart, strictly, there}

-- the bytes of files, one by one
sizes : {K : Type 0} (files : List (K × List ℕ)) → sum_by length (map (λ (file : K × List ℕ). file.1) files) ≡ size files
sizes [] = refl
sizes (file ∷ files) =
    sum_by-cons length file.1 (map (λ other. other.1) files) ∙ ap (λ n. length file.1 + n) (sizes files) ∙ sym (sum_by-cons (λ other. length other.1) file files)

module _ (spec : Rockspec) (bytes : List ℕ) (found : List Found) (gathered : Gathered) (none : NoneFails found) (files : AreFilesOf found gathered) (good : AreGood (rockspec_of spec.key) (map (λ (one : Found). one.step) found)) where
  abbrev rock : Rock
  rock = rock_with spec bytes gathered

  abbrev items_found : List (Item × List ℕ)
  items_found = filter_map item_of found

  abbrev own_found : List (List ℕ × List ℕ)
  own_found = filter_map own_of found

  items_differ : AllPairs (λ item other. item ≢ other) (map (λ (file : Item × List ℕ). file.0) items_found)
  items_differ = subst (λ (l : List Item). AllPairs (λ item other. item ≢ other) l) (sym (item_keys found)) good.items_differ

  own_differ : AllPairs (λ path other. path ≢ other) (map (λ (file : List ℕ × List ℕ). file.0) own_found)
  own_differ = subst (λ (l : List (List ℕ)). AllPairs (λ path other. path ≢ other) l) (sym (own_keys found)) good.own_differ

  pub is_rock : IsRockOf spec bytes found rock
  is_rock = record {
    key = refl;
    dependencies = refl;
    rockspec = refl;
    items_in_order = strictly items_found gathered.items files.items item_total item_equal files.items_in_order items_differ;
    items = λ file. (there items_found gathered.items files.items file, here items_found gathered.items files.items file);
    own_in_order = strictly own_found gathered.own files.own nat_list_cmp_total equal_paths files.own_in_order own_differ;
    own = λ file. (there own_found gathered.own files.own file, here own_found gathered.own files.own file);
  }

  item_found : (item : Item) → Contains (items_of rock) item → Contains (items_made (map (λ (one : Found). one.step) found)) item
  item_found item has = subst (λ (l : List Item). Contains l item) (item_keys found) (key_there items_found gathered.items files.items item has)

  path_found : (path : List ℕ) → Contains (own_paths_of rock) path → Contains (own_paths_made (map (λ (one : Found). one.step) found)) path
  path_found path has = subst (λ (l : List (List ℕ)). Contains l path) (own_keys found) (key_there own_found gathered.own files.own path has)

  good_paths : HasGoodPaths rock
  good_paths = record {
    items = is_rock.items_in_order;
    own = is_rock.own_in_order;
    items_apart = items_apart _ (items_of rock) item_found good.items_apart;
    own_apart = paths_apart _ (own_paths_of rock) path_found good.own_apart;
    own_beside = beside_both (rockspec_of spec.key) _ (own_paths_of rock) path_found good.own_beside;
  }

  abbrev item_bytes : List (List ℕ)
  item_bytes = map (λ (file : Item × List ℕ). file.1) gathered.items

  abbrev own_bytes : List (List ℕ)
  own_bytes = map (λ (file : List ℕ × List ℕ). file.1) gathered.own

  count : length (contents_of rock) ≤ MOST_FILES
  count =
      let whole = length-append item_bytes own_bytes in
      let of_items = length-map gathered.items (λ (file : Item × List ℕ). file.1) in
      let of_own = length-map gathered.own (λ (file : List ℕ × List ℕ). file.1) in
      let items = length_permutation items_found gathered.items files.items in
      let own = length_permutation own_found gathered.own files.own in
      omega (arith, whole, of_items, of_own, items, own, few found, count_within found none)

  bytes_in_all : sum (map length (contents_of rock)) ≤ MOST_BYTES
  bytes_in_all =
      let whole = sum-map length (contents_of rock) in
      let parts = sum_by-append length item_bytes own_bytes in
      let of_items = sizes gathered.items in
      let of_own = sizes gathered.own in
      let items = sum_by-IsPermutation (λ (file : Item × List ℕ). length file.1) items_found gathered.items files.items in
      let own = sum_by-IsPermutation (λ (file : List ℕ × List ℕ). length file.1) own_found gathered.own files.own in
      omega (arith, whole, parts, of_items, of_own, items, own, small found, bytes_within found none)

  within_limits : IsWithinLimits rock
  within_limits = record {
    each = All-append IsShort item_bytes own_bytes
        (All-map-IsPermutation (λ (file : Item × List ℕ). file.1) IsShort items_found gathered.items files.items (short_items found (all_short found none)))
        (All-map-IsPermutation (λ (file : List ℕ × List ℕ). file.1) IsShort own_found gathered.own files.own (short_own found (all_short found none)));
    count = count;
    size = bytes_in_all;
  }

  pub makes : IsSpec bytes spec → Makes spec bytes rock
  makes is = record {
    key = refl;
    dependencies = refl;
    rockspec = refl;
    well_made = record { spec = spec; is = is; key = refl; dependencies = refl; paths = good_paths; limits = within_limits };
  }
