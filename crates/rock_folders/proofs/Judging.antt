-- What the record and the rockspec in a rock's folder tell of it.
use Rattle.std.proofs.Common.{◌≡◌, ◌≢◌, ◌⊎◌, inl, inr, ⊎_elim, ℕ, true, false, List, refl, sym, ap, ◌∙◌, subst, Some, None}
use Rattle.std.specs.Prelude.{Option, IfSome, IsSome, is_some}
use Rattle.std.specs.FinMap.{get}
use Rattle.std.specs.Ordering.{is_lt, ordering_reverse}
use Rattle.std.specs.declared.cmp.Ordering.TheVariants.{Less, Greater}
use Rattle.std.proofs.lemmas.Cmp.{tied_itself}
use Rattle.rocks_text.specs.Files.{path_cmp, Files}
use Rattle.rocks_version.specs.declared.key.RockKey.{RockKey}
use Rattle.rock_manifest.proofs.Orders.{path_total}
use Rattle.rock_manifest.specs.declared.record.Record.{Record}
use Rattle.rock_manifest.specs.Text.{record_text}
use Rattle.rockspec.specs.Specs.{IsSpec}
use Rattle.tree_sets.specs.Trees.{record_path, rockspec_path}
use Rattle.rock_folders.specs.Folders.{HasBadRecord, HasBadRockspec, IsBadAt, IsFolderOf, IsReadingOf, IsRockspecOf}
use Rattle.rock_folders.specs.Steps.{IsRecordRead, IsRockspecRead, IsNoRockspecOf}
use Rattle.rock_folders.specs.declared.folder.FoundRockspec.{FoundRockspec}
use Rattle.rock_folders.specs.declared.reading.Reading.TheVariants.{Good, Bad}

-- ---- the lesser of two paths

pub not_itself : (path : List ℕ) → path_cmp path path ≢ Greater
not_itself path greater = let clash = sym greater ∙ tied_itself path_total path in cc clash

pub not_above : (left right : List ℕ) → is_lt (path_cmp left right) ≡ false → path_cmp right left ≢ Greater
not_above left right low greater =
    let back : path_cmp left right ≡ Less = path_total.antisymm left right ∙ ap ordering_reverse greater in
    let clash = sym low ∙ ap is_lt back in
    cc clash

-- ---- what comes of the folder

module _ (files : Files) (key : RockKey) where
  bad_record : IsSome (get files (record_path key)) → IsRecordRead key (get files (record_path key)) None → HasBadRecord files key
  bad_record = held (get files (record_path key)) refl
    where
      held : (o : Option (List ℕ)) → get files (record_path key) ≡ o → IsSome (get files (record_path key)) → IsRecordRead key (get files (record_path key)) None → HasBadRecord files key
      held None is some read = let clash : is_some {T = List ℕ} None ≡ true = subst (λ (o : Option (List ℕ)). is_some o ≡ true) is some in absurd cc
      held (Some bytes) is some read = (bytes, is, read bytes is)

  good_record : (whole : Record) → IsRecordRead key (get files (record_path key)) (Some whole) → ¬ (HasBadRecord files key)
  good_record whole read bad =
      let same = sym read.1 ∙ bad.1 in
      let texts : record_text whole ≡ bad.0 = cc in
      bad.2 whole read.0 texts

  good_rockspec_by : (held : Option (List ℕ)) (found : Option FoundRockspec) → IsRockspecOf key held found → (bytes : List ℕ) → held ≡ Some bytes → ¬ (IsNoRockspecOf key bytes)
  good_rockspec_by None None is bytes there bad = cc
  good_rockspec_by None (Some found) is bytes there bad = is
  good_rockspec_by (Some text) None is bytes there bad = is
  good_rockspec_by (Some text) (Some found) is bytes there bad =
      let same : text ≡ bytes = cc in
      bad is.0 (subst (λ (b : List ℕ). IsSpec b is.0) same is.1) is.2

  good_rockspec : (found : Option FoundRockspec) → IsRockspecRead key (get files (rockspec_path key)) (Some found) → ¬ (HasBadRockspec files key)
  good_rockspec found is bad = good_rockspec_by (get files (rockspec_path key)) found is bad.0 bad.1 bad.2

  good_folder : (whole : Record) (found : Option FoundRockspec) (folder_key : RockKey) → IsRecordRead key (get files (record_path key)) (Some whole)
      → IsRockspecRead key (get files (rockspec_path key)) (Some found) → folder_key ≡ key → IsFolderOf files key (record { key = folder_key; «record» = whole; rockspec = found })
  good_folder whole found folder_key read spec same = record { key = same; is = read.0; text = read.1; rockspec = spec }

  -- the one bad path is the least
  only_at : (path : List ℕ) → IsBadAt files key path → ((other : List ℕ) → IsBadAt files key other → other ≡ path) → IsReadingOf files key (Bad path)
  only_at path bad alone = (bad, λ other is. subst (λ (p : List ℕ). path_cmp path p ≢ Greater) (sym (alone other is)) (not_itself path))

  bad_rockspec_alone : (whole : Record) → IsRecordRead key (get files (record_path key)) (Some whole) → HasBadRockspec files key → IsReadingOf files key (Bad (rockspec_path key))
  bad_rockspec_alone whole read bad =
      only_at (rockspec_path key) (inr (refl, bad)) (λ other is. ⊎_elim (λ first. absurd (good_record whole read first.1)) (λ second. second.0) is)

  bad_record_alone : (found : Option FoundRockspec) → HasBadRecord files key → IsRockspecRead key (get files (rockspec_path key)) (Some found) → IsReadingOf files key (Bad (record_path key))
  bad_record_alone found bad spec =
      only_at (record_path key) (inl (refl, bad)) (λ other is. ⊎_elim (λ first. first.0) (λ second. absurd (good_rockspec found spec second.1)) is)

  bad_both : (path : List ℕ) → HasBadRecord files key → HasBadRockspec files key → (path ≡ record_path key) ⊎ (path ≡ rockspec_path key)
      → path_cmp path (record_path key) ≢ Greater → path_cmp path (rockspec_path key) ≢ Greater → IsReadingOf files key (Bad path)
  bad_both path first second one below_first below_second = (
    ⊎_elim (λ e. inl (e, first)) (λ e. inr (e, second)) one,
    λ other is.
        ⊎_elim (λ at. subst (λ (p : List ℕ). path_cmp path p ≢ Greater) (sym at.0) below_first)
        (λ at. subst (λ (p : List ℕ). path_cmp path p ≢ Greater) (sym at.0) below_second) is,
  )

-- ---- the same of a device, which may tell its files

pub record IsRead (told : Option Files) (key : RockKey) (found : Option Record) (rockspec : Option (Option FoundRockspec)) : Type 0 where
  pub there : IfSome told (λ files. IsSome (get files (record_path key)))
  pub first : IfSome told (λ files. IsRecordRead key (get files (record_path key)) found)
  pub second : IfSome told (λ files. IsRockspecRead key (get files (rockspec_path key)) rockspec)

pub both_read : (told after : Option Files) (key : RockKey) (found : Option Record) (rockspec : Option (Option FoundRockspec)) (first_at second_at : List ℕ)
    → IfSome told (λ files. IsSome (get files (record_path key)))
    → first_at ≡ record_path key → second_at ≡ rockspec_path key → after ≡ told
    → IfSome told (λ files. IsRecordRead key (get files first_at) found)
    → IfSome after (λ files. IsRockspecRead key (get files second_at) rockspec) → IsRead told key found rockspec
both_read told after key found rockspec first_at second_at there first_is second_is same first second = record {
  there = there;
  first = subst (λ (p : List ℕ). IfSome told (λ files. IsRecordRead key (get files p) found)) first_is first;
  second = subst (λ (p : List ℕ). IfSome told (λ files. IsRockspecRead key (get files p) rockspec)) second_is
      (subst (λ (o : Option Files). IfSome o (λ files. IsRockspecRead key (get files second_at) rockspec)) same second);
}

pub good_read : (told : Option Files) (key folder_key : RockKey) (whole : Record) (found : Option FoundRockspec) → IsRead told key (Some whole) (Some found) → folder_key ≡ key
    → IfSome told (λ files. IsReadingOf files key (Good (record { key = folder_key; «record» = whole; rockspec = found })))
good_read None key folder_key whole found read same = tt
good_read (Some files) key folder_key whole found read same = good_folder files key whole found folder_key read.first read.second same

pub rockspec_bad : (told : Option Files) (key : RockKey) (whole : Record) (path : List ℕ) → IsRead told key (Some whole) None → path ≡ rockspec_path key → IfSome told (λ files. IsReadingOf files key (Bad path))
rockspec_bad None key whole path read is = tt
rockspec_bad (Some files) key whole path read is = subst (λ (p : List ℕ). IsReadingOf files key (Bad p)) (sym is) (bad_rockspec_alone files key whole read.first read.second)

pub record_bad : (told : Option Files) (key : RockKey) (found : Option FoundRockspec) (path : List ℕ) → IsRead told key None (Some found) → path ≡ record_path key → IfSome told (λ files. IsReadingOf files key (Bad path))
record_bad None key found path read is = tt
record_bad (Some files) key found path read is = subst (λ (p : List ℕ). IsReadingOf files key (Bad p)) (sym is) (bad_record_alone files key found (bad_record files key read.there read.first) read.second)

pub both_bad : (told : Option Files) (key : RockKey) (path first second : List ℕ) → IsRead told key None None → first ≡ record_path key → second ≡ rockspec_path key → (path ≡ first) ⊎ (path ≡ second)
    → path_cmp path first ≢ Greater → path_cmp path second ≢ Greater → IfSome told (λ files. IsReadingOf files key (Bad path))
both_bad None key path first second read first_is second_is one below_first below_second = tt
both_bad (Some files) key path first second read first_is second_is one below_first below_second =
    bad_both files key path (bad_record files key read.there read.first) read.second
    (⊎_elim (λ e. inl (e ∙ first_is)) (λ e. inr (e ∙ second_is)) one)
    (subst (λ (p : List ℕ). path_cmp path p ≢ Greater) first_is below_first)
    (subst (λ (p : List ℕ). path_cmp path p ≢ Greater) second_is below_second)

pub as_read : (told : Option Files) (key : RockKey) (found now_found : Option Record) (rockspec now_rockspec : Option (Option FoundRockspec)) → IsRead told key found rockspec
    → found ≡ now_found → rockspec ≡ now_rockspec → IsRead told key now_found now_rockspec
as_read told key found now_found rockspec now_rockspec read one other =
    subst (λ (f : Option Record). IsRead told key f now_rockspec) one (subst (λ (r : Option (Option FoundRockspec)). IsRead told key found r) other read)
