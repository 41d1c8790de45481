-- The files that the steps of a build make stand beside each other, and beside the rock's record and rockspec.
use Rattle.std.proofs.Common.{◌≡◌, ◌≢◌, ◌⊎◌, inl, inr, ⊎_elim, ℕ, List, ◌++◌, codes, drop, length, arith, refl, sym, ap, ◌∙◌}
use Rattle.std.specs.Prelude.{Contains}
use Rattle.std.specs.List.{AllPairs, filter_map, flat_map}
use Rattle.std.proofs.lemmas.List.Elements.{Contains-append_cases, Contains-get_or}
use Rattle.std.proofs.lemmas.List.Kept.{AllPairs-filter}
use Rattle.lua_value.specs.Pairs.{Pairs}
use Rattle.rocks_text.specs.Items.{rank_of}
use Rattle.rocks_text.specs.Paths.{joined, IsFolderOf}
use Rattle.rocks_outside.specs.Shelf.{IsFolderListing}
use Rattle.build_targets.specs.Folders.{first_part}
use Rattle.build_targets.specs.declared.target.Dest.TheVariants as dests
use Rattle.build_targets.specs.declared.target.Target.{Target}
use Rattle.build_plan.specs.declared.plan.BuildPlan.TheVariants.{Build}
use Rattle.build_plan.specs.declared.recipe.Recipe.{Recipe}
use Rattle.build_plan.specs.Plans.{path_of, sort_of, HasPlan}
use Rattle.build_plan.proofs.PlanLaws.{folders_beside, folders_differ, targets_beside, targets_differ}
use Rattle.rock_record.specs.Made.{AreBesideBoth, AreItemsApart, ArePathsApart, IsBeside}
use Rattle.rock_steps.specs.Steps.{is_in}
use Rattle.rock_steps.proofs.BuiltParts.{files_in, item_at, own_at, to_conf, to_item}
use Rattle.rock_steps.proofs.FirstParts.{beside, first_below, first_of_folder}
use Rattle.rock_steps.proofs.InFolders.{folder_along, folder_from_in, two_folders}
use Rattle.rock_steps.proofs.Made.{ascending_differ, joined_of, made_of, of_filter, pairs_append, pairs_joined, pairs_made}
use Rattle.rock_steps.proofs.Recipes.{folders_begin, IsOwnPlace}

module _ (rockspec : List ℕ) (fields : Pairs) (recipe : Recipe) (plan : HasPlan rockspec fields (Build recipe)) where
  -- ---- items

  pub items_differ : AllPairs (λ item other. item ≢ other) (filter_map item_at recipe.files)
  items_differ =
      pairs_made item_at (λ target again. target.to ≢ again.to) (λ item other. item ≢ other)
      (λ target again item other is is_other differ same.
      differ (to_item target.to item is ∙ ap dests.Item same ∙ sym (to_item again.to other is_other)))
      recipe.files (targets_differ rockspec fields recipe plan)

  pub items_apart : AreItemsApart (filter_map item_at recipe.files)
  items_apart item other has has_too kinds within =
      let upper = made_of item_at recipe.files item has in
      let lower = made_of item_at recipe.files other has_too in
      let is_upper = to_item upper.0.to item upper.2 in
      let is_lower = to_item lower.0.to other lower.2 in
      targets_beside rockspec fields recipe plan upper.0 lower.0 upper.1 lower.1
      (ap sort_of is_upper ∙ ap rank_of kinds ∙ sym (ap sort_of is_lower))
      (folder_along item.path other.path (path_of upper.0.to) (path_of lower.0.to) (sym (ap path_of is_upper)) (sym (ap path_of is_lower)) within)

  -- ---- own files: configuration files, and those of named folders

  record IsConf (path : List ℕ) : Type 0 where
    target : Target
    among : Contains recipe.files target
    rest : List ℕ
    stands : target.to ≡ dests.Conf rest
    is : path ≡ codes "conf/" ++ rest

  record IsKept (listing : List (List ℕ)) (path : List ℕ) : Type 0 where
    folder : List ℕ
    named : Contains recipe.folders folder
    listed : Contains listing path
    within : IsFolderOf folder path

  conf_of : (path : List ℕ) → Contains (filter_map own_at recipe.files) path → IsConf path
  conf_of path has =
      let from = made_of own_at recipe.files path has in
      let conf = to_conf from.0.to path from.2 in
      record { target = from.0; among = from.1; rest = conf.0; stands = conf.1; is = conf.2 }

  conf_first : (path : List ℕ) → IsConf path → first_part path ≡ codes "conf"
  conf_first path conf = ap first_part conf.is ∙ first_below (codes "conf") conf.rest

  confs_differ : AllPairs (λ path other. path ≢ other) (filter_map own_at recipe.files)
  confs_differ =
      pairs_made own_at (λ target again. target.to ≢ again.to) (λ path other. path ≢ other)
      (λ target again path other is is_other differ same.
      let upper = to_conf target.to path is in
      let lower = to_conf again.to other is_other in
      let rests = ap (drop 5) (sym upper.2 ∙ same ∙ lower.2) in
      differ (upper.1 ∙ ap dests.Conf rests ∙ sym lower.1))
      recipe.files (targets_differ rockspec fields recipe plan)

  confs_apart : (path other : List ℕ) → IsConf path → IsConf other → IsFolderOf path other → ⊥
  confs_apart path other upper lower within =
      let inside : codes "conf/" ++ lower.rest ≡ codes "conf/" ++ joined upper.rest within.0 = sym lower.is ∙ within.1 ∙ ap (λ (l : List ℕ). joined l within.0) upper.is in
      targets_beside rockspec fields recipe plan upper.target lower.target upper.among lower.among
      (ap sort_of upper.stands ∙ sym (ap sort_of lower.stands))
      (folder_along upper.rest lower.rest (path_of upper.target.to) (path_of lower.target.to)
      (sym (ap path_of upper.stands)) (sym (ap path_of lower.stands)) (within.0, ap (drop 5) inside))

  module _ (source : List ℕ) (listing : List (List ℕ)) (form : IsFolderListing source listing) where
    kept_in : (folder path : List ℕ) → Contains (files_in listing folder) path → Contains listing path × IsFolderOf folder path
    kept_in folder path has = let found = of_filter (is_in folder) listing path has in (found.0, folder_from_in folder path found.1)

    kept_of : (path : List ℕ) → Contains (flat_map (files_in listing) recipe.folders) path → IsKept listing path
    kept_of path has =
        let from = joined_of (files_in listing) recipe.folders path has in
        let found = kept_in from.0 path from.2 in
        record { folder = from.0; named = from.1; listed = found.0; within = found.1 }

    kept_first : (path : List ℕ) → IsKept listing path → IsOwnPlace rockspec (first_part path)
    kept_first path kept =
        let begins = folders_begin rockspec fields recipe plan kept.folder kept.named in
        let same = first_of_folder kept.folder path kept.within in
        record {
          not_conf = λ e. begins.not_conf (sym same ∙ e);
          not_record = λ e. begins.not_record (sym same ∙ e);
          not_rockspec = λ e. begins.not_rockspec (sym same ∙ e);
        }

    -- two named folders have no file together
    folders_apart : (folder other path again : List ℕ) → (folder ≢ other) × Contains recipe.folders folder × Contains recipe.folders other
        → Contains (files_in listing folder) path → Contains (files_in listing other) again → path ≢ again
    folders_apart folder other path again two has has_too same =
        let here = (kept_in folder path has).1 in
        let there = (kept_in other again has_too).1 in
        ⊎_elim two.0
        (⊎_elim (folders_beside rockspec fields recipe plan folder other two.1 two.2) (folders_beside rockspec fields recipe plan other folder two.2 two.1))
        (two_folders folder other here.0 there.0 (sym here.1 ∙ same ∙ there.1))

    kept_differ : AllPairs (λ path other. path ≢ other) (flat_map (files_in listing) recipe.folders)
    kept_differ =
        pairs_joined (files_in listing) (λ path other. path ≢ other)
        (λ folder other. (folder ≢ other) × Contains recipe.folders folder × Contains recipe.folders other) folders_apart
        (λ folder. AllPairs-filter (λ path other. path ≢ other) (is_in folder) listing (ascending_differ listing form.ascending))
        recipe.folders
        (λ i j d below within. (
          folders_differ rockspec fields recipe plan i j d below within,
          Contains-get_or recipe.folders i d (omega (arith, below, within)),
          Contains-get_or recipe.folders j d within,
        ))

    which : (path : List ℕ) → Contains (filter_map own_at recipe.files ++ flat_map (files_in listing) recipe.folders) path → IsConf path ⊎ IsKept listing path
    which path has = ⊎_elim (λ front. inl (conf_of path front)) (λ back. inr (kept_of path back)) (Contains-append_cases (filter_map own_at recipe.files) (flat_map (files_in listing) recipe.folders) path has)

    conf_and_kept : (path other : List ℕ) → IsConf path → IsKept listing other → first_part path ≢ first_part other
    conf_and_kept path other conf kept same = (kept_first other kept).not_conf (sym same ∙ conf_first path conf)

    pub own_differ : AllPairs (λ path other. path ≢ other) (filter_map own_at recipe.files ++ flat_map (files_in listing) recipe.folders)
    own_differ =
        pairs_append (λ path other. path ≢ other) (filter_map own_at recipe.files) (flat_map (files_in listing) recipe.folders) confs_differ kept_differ
        (λ path other has has_too same. conf_and_kept path other (conf_of path has) (kept_of other has_too) (ap first_part same))

    apart_by : (path other : List ℕ) → IsConf path ⊎ IsKept listing path → IsConf other ⊎ IsKept listing other → IsFolderOf path other → ⊥
    apart_by path other (inl conf) (inl conf_too) within = confs_apart path other conf conf_too within
    apart_by path other (inl conf) (inr kept) within = conf_and_kept path other conf kept (sym (first_of_folder path other within))
    apart_by path other (inr kept) (inl conf) within = conf_and_kept other path conf kept (first_of_folder path other within)
    apart_by path other (inr kept) (inr kept_too) within = form.apart path other kept.listed kept_too.listed within

    pub own_apart : ArePathsApart (filter_map own_at recipe.files ++ flat_map (files_in listing) recipe.folders)
    own_apart path other has has_too = apart_by path other (which path has) (which other has_too)

    module _ (whole : first_part rockspec ≡ rockspec) (not_conf : codes "conf" ≢ rockspec) where
      conf_no_record : codes "conf" ≢ codes "rock_manifest"
      conf_no_record same = let sizes = ap (λ (l : List ℕ). length l) same in absurd (omega arith)

      beside_by : (path : List ℕ) → IsConf path ⊎ IsKept listing path → IsBeside (codes "rock_manifest") path × IsBeside rockspec path
      beside_by path (inl conf) =
          let first = conf_first path conf in (
            beside (codes "rock_manifest") path refl (λ same. let clash = sym first ∙ same in conf_no_record clash),
            beside rockspec path whole (λ same. not_conf (sym first ∙ same)),
          )
      beside_by path (inr kept) =
          let first = kept_first path kept in
          (beside (codes "rock_manifest") path refl first.not_record, beside rockspec path whole first.not_rockspec)

      pub own_beside : AreBesideBoth rockspec (filter_map own_at recipe.files ++ flat_map (files_in listing) recipe.folders)
      own_beside path has = beside_by path (which path has)
