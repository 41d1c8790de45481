-- The files of a record stand apart exactly where none of their places is twofold.
use Rattle.std.proofs.Common.{◌≡◌, ◌≢◌, ◌⊎◌, inl, inr, ⊎_elim, ◌+◌, ℕ, zero, suc, not, true, Bool, List, [], ◌∷◌, ◌++◌, length, map, codes, refl, sym, ap, ◌∙◌, subst, Some, arith}
use Rattle.std.specs.Prelude.{slice_get, Contains}
use Rattle.std.specs.List.{filter}
use Rattle.std.specs.List.Sorted.{IsStrictlySortedBy}
use Rattle.std.specs.Str.{bytes_eq}
use Rattle.std.proofs.lemmas.Bool.{cases_Bool, not-true, not_from_false}
use Rattle.std.proofs.lemmas.List.Kept.{IsStrictlySortedBy-filter}
use Rattle.std.proofs.lemmas.List.{length-map}
use Rattle.std.proofs.lemmas.Option.{slice_get_within}
use Rattle.std.proofs.lemmas.Slice.Eq.{bytes_eq-Decides}
use Rattle.rocks_text.specs.Files.{path_cmp}
use Rattle.rocks_text.specs.Items.{item_cmp, rank_of}
use Rattle.rocks_text.specs.Paths.{IsFolderOf}
use Rattle.rocks_text.specs.declared.item.Item.{Item}
use Rattle.rocks_text.specs.declared.item.Kind.{Kind}
use Rattle.rocks_text.specs.declared.item.Kind.TheVariants.{Lua, Lib, Bin}
use Rattle.rocks_constraint.specs.Wanted.{Wanted}
use Rattle.rocks_version.specs.Keys.{rockspec_name}
use Rattle.rocks_version.specs.declared.key.RockKey.{RockKey}
use Rattle.rock_manifest.proofs.Orders.{item_total, path_total}
use Rattle.rock_record.specs.Made.{AreItemsApart, ArePathsApart}
use Rattle.tree_sets.proofs.Folders.{record_is_no_rockspec, uncut, has_no_slash}
use Rattle.tree_sets.specs.Sets.{IsEntry}
use Rattle.tree_sets.specs.declared.entry.IndexEntry.{IndexEntry}
use Rattle.twofold_paths.proofs.PlaceOrder.{folder_differs}
use Rattle.twofold_paths.specs.Places.{IsTwofoldPath}
use Rattle.twofold_paths.specs.declared.place.Place.{Place}
use Rattle.rock_folders.specs.Steps.{item_place, own_place}
use Rattle.rock_folders.proofs.SpotsInRows.{at_contains, back_there, contains_at, filter_contains, filter_from, front_there, mapped_from, mapped_there, one_place, which, IsBehind}

same_kind : (kind other : Kind) → rank_of kind ≡ rank_of other → kind ≡ other
same_kind Lua Lua e = refl
same_kind Lua Lib e = absurd (omega arith)
same_kind Lua Bin e = absurd (omega arith)
same_kind Lib Lua e = absurd (omega arith)
same_kind Lib Lib e = refl
same_kind Lib Bin e = absurd (omega arith)
same_kind Bin Lua e = absurd (omega arith)
same_kind Bin Lib e = absurd (omega arith)
same_kind Bin Bin e = refl

-- an item's sort is none of the own files
no_item : (kind : Kind) → rank_of kind ≢ 3
no_item Lua e = absurd (omega arith)
no_item Lib e = absurd (omega arith)
no_item Bin e = absurd (omega arith)

abbrev record_name : List ℕ
record_name = codes "rock_manifest"

-- the places of items and of own files and of the record
abbrev pub row : List Item → List (List ℕ) → List Place
row items own = map item_place items ++ (map own_place own ++ own_place record_name ∷ [])

module _ (items : List Item) (own : List (List ℕ)) where
  -- ---- where each stands

  item_there : (k : ℕ) (item : Item) → slice_get items k ≡ Some item → slice_get (row items own) k ≡ Some (item_place item)
  item_there k item is = front_there (map item_place items) (map own_place own ++ own_place record_name ∷ []) k (item_place item) (mapped_there item_place items k item is)

  own_there : (k : ℕ) (path : List ℕ) → slice_get own k ≡ Some path → slice_get (row items own) (length (map item_place items) + k) ≡ Some (own_place path)
  own_there k path is =
      back_there (map item_place items) (map own_place own ++ own_place record_name ∷ []) k (own_place path)
      (front_there (map own_place own) (own_place record_name ∷ []) k (own_place path) (mapped_there own_place own k path is))

  record_there : slice_get (row items own) (length (map item_place items) + (length (map own_place own) + 0)) ≡ Some (own_place record_name)
  record_there =
      back_there (map item_place items) (map own_place own ++ own_place record_name ∷ []) (length (map own_place own) + 0) (own_place record_name)
      (back_there (map own_place own) (own_place record_name ∷ []) 0 (own_place record_name) refl)

  -- ---- what stands where

  record IsItemAt (k : ℕ) (place : Place) : Type 0 where
    item : Item
    there : slice_get items k ≡ Some item
    is : item_place item ≡ place

  record IsOwnAt (k : ℕ) (place : Place) : Type 0 where
    at : ℕ
    path : List ℕ
    spot : k ≡ length (map item_place items) + at
    there : slice_get own at ≡ Some path
    is : own_place path ≡ place

  record IsRecordPlace (k : ℕ) (place : Place) : Type 0 where
    spot : k ≡ length (map item_place items) + length (map own_place own)
    is : own_place record_name ≡ place

  one_record : (k : ℕ) (place : Place) → slice_get (own_place record_name ∷ []) k ≡ Some place → (k ≡ 0) × (own_place record_name ≡ place)
  one_record zero place is = (refl, cc)
  one_record (suc k) place is = absurd cc

  own_which : (k : ℕ) (place : Place) → IsBehind (map item_place items) (map own_place own ++ own_place record_name ∷ []) k place → IsOwnAt k place ⊎ IsRecordPlace k place
  own_which k place back =
      ⊎_elim
      (λ front. let found = mapped_from own_place own back.at place front in
      inl (record { at = back.at; path = found.0; spot = back.place; there = found.1; is = found.2 }))
      (λ (last : IsBehind (map own_place own) (own_place record_name ∷ []) back.at place).
      let one = one_record last.at place last.there in
      let outer = back.place in
      let inner = last.place in
      let none = one.0 in
      inr (record { spot = omega arith; is = one.1 }))
      (which (map own_place own) (own_place record_name ∷ []) back.at place back.there)

  place_which : (k : ℕ) (place : Place) → slice_get (row items own) k ≡ Some place → IsItemAt k place ⊎ (IsOwnAt k place ⊎ IsRecordPlace k place)
  place_which k place is =
      ⊎_elim
      (λ front. let found = mapped_from item_place items k place front in inl (record { item = found.0; there = found.1; is = found.2 }))
      (λ (back : IsBehind (map item_place items) (map own_place own ++ own_place record_name ∷ []) k place). inr (own_which k place back))
      (which (map item_place items) (map own_place own ++ own_place record_name ∷ []) k place is)

  -- ---- from places that are apart to paths

  module _ (none : (path : List ℕ) → ¬ (IsTwofoldPath (row items own) path)) where
    pub apart_items : AreItemsApart items
    apart_items item other has has_too one_kind folder =
        let upper = at_contains items item has in
        let lower = at_contains items other has_too in
        none other.path (record {
          first = upper.0;
          second = lower.0;
          upper = item_place item;
          lower = item_place other;
          apart = λ e.
              let both = sym upper.1 ∙ ap (slice_get items) e ∙ lower.1 in
              let same : item ≡ other = cc in
              folder_differs item.path other.path folder (ap (λ (i : Item). i.path) same);
          is_upper = item_there upper.0 item upper.1;
          is_lower = item_there lower.0 other lower.1;
          one_sort = ap rank_of one_kind;
          within = inr folder;
          at = refl;
        })

    pub apart_own : ArePathsApart own
    apart_own path other has has_too folder =
        let upper = at_contains own path has in
        let lower = at_contains own other has_too in
        let n = length (map item_place items) in
        none other (record {
          first = n + upper.0;
          second = n + lower.0;
          upper = own_place path;
          lower = own_place other;
          apart = λ e.
              let spots : n + upper.0 ≡ n + lower.0 = e in
              let spot : upper.0 ≡ lower.0 = omega arith in
              let both = sym upper.1 ∙ ap (slice_get own) spot ∙ lower.1 in
              let same : path ≡ other = cc in
              folder_differs path other folder same;
          is_upper = own_there upper.0 path upper.1;
          is_lower = own_there lower.0 other lower.1;
          one_sort = refl;
          within = inr folder;
          at = refl;
        })

    -- the record stands in no file's way
    pub beside_record : (path : List ℕ) → Contains own path → (record_name ≡ path) ⊎ IsFolderOf record_name path → ⊥
    beside_record path has within =
        let lower = at_contains own path has in
        let n = length (map item_place items) in
        let m = length (map own_place own) in
        let size : m ≡ length own = length-map own own_place in
        let below = slice_get_within own lower.0 path lower.1 in
        none path (record {
          first = n + (m + 0);
          second = n + lower.0;
          upper = own_place record_name;
          lower = own_place path;
          apart = λ e. let spots : n + (m + 0) ≡ n + lower.0 = e in absurd (omega arith);
          is_upper = record_there;
          is_lower = own_there lower.0 path lower.1;
          one_sort = refl;
          within = within;
          at = refl;
        })

  -- ---- and back

  module _ (key : RockKey) (wanted : List Wanted) (rockspec_there : Contains own (rockspec_name key.name key.version)) (few_slashes : has_no_slash (rockspec_name key.name key.version) ≡ true)
      (items_rise : IsStrictlySortedBy item_cmp items) (own_rise : IsStrictlySortedBy path_cmp own) where
    abbrev rockspec : List ℕ
    rockspec = rockspec_name key.name key.version

    abbrev is_other : List ℕ → Bool
    is_other path = not (bytes_eq path rockspec)

    abbrev entry : IndexEntry
    entry = record { key = key; dependencies = wanted; items = items; own = filter is_other own }

    -- an own path is the rockspec's or another
    own_cases : (path : List ℕ) → Contains own path → (path ≡ rockspec) ⊎ Contains (filter is_other own) path
    own_cases path has =
        ⊎_elim (λ yes. inl ((bytes_eq-Decides path rockspec).0 yes))
        (λ otherwise. inr (filter_contains is_other own path has (not_from_false (bytes_eq path rockspec) otherwise)))
        (cases_Bool (bytes_eq path rockspec))

    other_own : (path : List ℕ) → Contains (filter is_other own) path → Contains own path × (path ≢ rockspec)
    other_own path has =
        let found = filter_from is_other own path has in
        (found.0, λ same. let yes = (bytes_eq-Decides path rockspec).1 same in let otherwise = not-true (bytes_eq path rockspec) found.1 in cc)

    pub to_entry : ((path : List ℕ) → ¬ (IsTwofoldPath (row items own) path)) → IsEntry entry
    to_entry none = record {
      items = items_rise;
      own = IsStrictlySortedBy-filter path_cmp is_other own own_rise;
      items_apart = apart_items none;
      own_apart = λ path other has has_too. apart_own none path other (other_own path has).0 (other_own other has_too).0;
      own_beside = λ path has.
          let found = other_own path has in (
            (λ same. beside_record none path found.0 (inl (sym same)), λ folder. beside_record none path found.0 (inr folder)),
            (found.1, λ folder. apart_own none rockspec path rockspec_there found.0 folder),
          );
    }

    module _ (is : IsEntry entry) where
      slashless_below : (folder path : List ℕ) → has_no_slash path ≡ true → ¬ (IsFolderOf folder path)
      slashless_below folder path none folder_of = uncut path folder folder_of.0 none folder_of.1

      own_apart_by : (path other : List ℕ) → (path ≡ rockspec) ⊎ Contains (filter is_other own) path → (other ≡ rockspec) ⊎ Contains (filter is_other own) other → ¬ (IsFolderOf path other)
      own_apart_by path other one (inl same) folder = slashless_below path other (subst (λ (p : List ℕ). has_no_slash p ≡ true) (sym same) few_slashes) folder
      own_apart_by path other (inl same) (inr has) folder =
          (is.own_beside other has).1.1 (subst (λ (p : List ℕ). IsFolderOf p other) same folder)
      own_apart_by path other (inr has) (inr has_too) folder = is.own_apart path other has has_too folder

      record_beside : (path : List ℕ) → (path ≡ rockspec) ⊎ Contains (filter is_other own) path → (path ≢ record_name) × ¬ (IsFolderOf record_name path)
      record_beside path (inl same) = (
        λ e. record_is_no_rockspec key.name key.version (sym e ∙ same),
        λ folder. slashless_below record_name path (subst (λ (p : List ℕ). has_no_slash p ≡ true) (sym same) few_slashes) folder,
      )
      record_beside path (inr has) = (is.own_beside path has).0

      module _ (path : List ℕ) (two : IsTwofoldPath (row items own) path) where
        items_by : IsItemAt two.first two.upper → IsItemAt two.second two.lower → (two.upper.path ≡ two.lower.path) ⊎ IsFolderOf two.upper.path two.lower.path → ⊥
        items_by upper lower within =
            let kinds = same_kind upper.item.kind lower.item.kind (ap (λ (p : Place). p.sort) upper.is ∙ two.one_sort ∙ sym (ap (λ (p : Place). p.sort) lower.is)) in
            let up = ap (λ (p : Place). p.path) upper.is in
            let low = ap (λ (p : Place). p.path) lower.is in
            ⊎_elim
            (λ paths. let texts : upper.item.path ≡ lower.item.path = up ∙ paths ∙ sym low in
            let same : upper.item ≡ lower.item = λ i. record { kind = kinds i; path = texts i } in
            two.apart (one_place item_cmp item_total items items_rise two.first two.second lower.item (upper.there ∙ ap Some same) lower.there))
            (λ folder. is.items_apart upper.item lower.item (contains_at items two.first upper.item upper.there) (contains_at items two.second lower.item lower.there) kinds
            (subst (λ (p : List ℕ). IsFolderOf p lower.item.path) (sym up) (subst (λ (p : List ℕ). IsFolderOf two.upper.path p) (sym low) folder))) within

        own_by : IsOwnAt two.first two.upper → IsOwnAt two.second two.lower → (two.upper.path ≡ two.lower.path) ⊎ IsFolderOf two.upper.path two.lower.path → ⊥
        own_by upper lower within =
            let up = ap (λ (p : Place). p.path) upper.is in
            let low = ap (λ (p : Place). p.path) lower.is in
            ⊎_elim
            (λ paths. let texts : upper.path ≡ lower.path = up ∙ paths ∙ sym low in
            let spot = one_place path_cmp path_total own own_rise upper.at lower.at lower.path (upper.there ∙ ap Some texts) lower.there in
            two.apart (upper.spot ∙ ap (λ (n : ℕ). length (map item_place items) + n) spot ∙ sym lower.spot))
            (λ folder. own_apart_by upper.path lower.path (own_cases upper.path (contains_at own upper.at upper.path upper.there)) (own_cases lower.path (contains_at own lower.at lower.path lower.there))
            (subst (λ (p : List ℕ). IsFolderOf p lower.path) (sym up) (subst (λ (p : List ℕ). IsFolderOf two.upper.path p) (sym low) folder))) within

        own_record_by : IsOwnAt two.first two.upper → IsRecordPlace two.second two.lower → (two.upper.path ≡ two.lower.path) ⊎ IsFolderOf two.upper.path two.lower.path → ⊥
        own_record_by upper lower within =
            let up = ap (λ (p : Place). p.path) upper.is in
            let low : record_name ≡ two.lower.path = ap (λ (p : Place). p.path) lower.is in
            ⊎_elim
            (λ paths. (record_beside upper.path (own_cases upper.path (contains_at own upper.at upper.path upper.there))).0 (up ∙ paths ∙ sym low))
            (λ folder. slashless_below two.upper.path record_name refl (subst (λ (p : List ℕ). IsFolderOf two.upper.path p) (sym low) folder)) within

        record_own_by : IsRecordPlace two.first two.upper → IsOwnAt two.second two.lower → (two.upper.path ≡ two.lower.path) ⊎ IsFolderOf two.upper.path two.lower.path → ⊥
        record_own_by upper lower within =
            let up : record_name ≡ two.upper.path = ap (λ (p : Place). p.path) upper.is in
            let low = ap (λ (p : Place). p.path) lower.is in
            let beside = record_beside lower.path (own_cases lower.path (contains_at own lower.at lower.path lower.there)) in
            ⊎_elim
            (λ paths. beside.0 (low ∙ sym paths ∙ sym up))
            (λ folder. beside.1 (subst (λ (p : List ℕ). IsFolderOf p lower.path) (sym up) (subst (λ (p : List ℕ). IsFolderOf two.upper.path p) (sym low) folder))) within

        sorts_clash : (kind : Kind) → rank_of kind ≡ two.upper.sort → 3 ≡ two.lower.sort → ⊥
        sorts_clash kind one other = no_item kind (one ∙ two.one_sort ∙ sym other)

        sorts_clash_too : (kind : Kind) → 3 ≡ two.upper.sort → rank_of kind ≡ two.lower.sort → ⊥
        sorts_clash_too kind one other = no_item kind (other ∙ sym two.one_sort ∙ sym one)

        by_which : IsItemAt two.first two.upper ⊎ (IsOwnAt two.first two.upper ⊎ IsRecordPlace two.first two.upper)
            → IsItemAt two.second two.lower ⊎ (IsOwnAt two.second two.lower ⊎ IsRecordPlace two.second two.lower) → ⊥
        by_which (inl upper) (inl lower) = items_by upper lower two.within
        by_which (inl upper) (inr (inl lower)) = sorts_clash upper.item.kind (ap (λ (p : Place). p.sort) upper.is) (ap (λ (p : Place). p.sort) lower.is)
        by_which (inl upper) (inr (inr lower)) = sorts_clash upper.item.kind (ap (λ (p : Place). p.sort) upper.is) (ap (λ (p : Place). p.sort) lower.is)
        by_which (inr (inl upper)) (inl lower) = sorts_clash_too lower.item.kind (ap (λ (p : Place). p.sort) upper.is) (ap (λ (p : Place). p.sort) lower.is)
        by_which (inr (inl upper)) (inr (inl lower)) = own_by upper lower two.within
        by_which (inr (inl upper)) (inr (inr lower)) = own_record_by upper lower two.within
        by_which (inr (inr upper)) (inl lower) = sorts_clash_too lower.item.kind (ap (λ (p : Place). p.sort) upper.is) (ap (λ (p : Place). p.sort) lower.is)
        by_which (inr (inr upper)) (inr (inl lower)) = record_own_by upper lower two.within
        by_which (inr (inr upper)) (inr (inr lower)) = two.apart (upper.spot ∙ sym lower.spot)

        pub from_entry : ⊥
        from_entry = by_which (place_which two.first two.upper two.is_upper) (place_which two.second two.lower two.is_lower)
