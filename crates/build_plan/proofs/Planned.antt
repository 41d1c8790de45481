-- What the steps to a plan come to.
use Rattle.std.proofs.Common.{◌≡◌, ◌≢◌, ◌<◌, ◌≤◌, ℕ, suc, List, [], ◌∷◌, ◌++◌, get_or, map, refl, sym, ap, ◌∙◌, subst, false, Option, Some, None, Err, codes, arith}
use Rattle.std.specs.Prelude.{◌↔◌, slice_get, Contains}
use Rattle.std.specs.Cmp.{IsTotalOrder}
use Rattle.std.specs.List.{AllByRecursion}
use Rattle.std.specs.List.Sorted.{IsPermutation, IsSorted, IsSortedBy, IsSortedByKey, IsStrictlySortedBy}
use Rattle.std.specs.Ordering.{is_lt}
use Rattle.std.specs.declared.cmp.Ordering.{Ordering}
use Rattle.std.specs.declared.cmp.Ordering.TheVariants.{Less, Equal, Greater}
use Rattle.std.proofs.lemmas.Cmp.{nat_list_cmp_total}
use Rattle.std.proofs.lemmas.List.{map-id}
use Rattle.std.proofs.lemmas.List.Sorted.{Contains-permutation, IsPermutation-sym, ranks_by, sorted_far}
use Rattle.std.proofs.lemmas.Option.{get_or_from_slice_get, slice_get_within}
use Rattle.lua_value.specs.Pairs.{Pairs}
use Rattle.rocks_text.specs.Files.{path_cmp}
use Rattle.build_targets.specs.Meanings.{source}
use Rattle.build_targets.specs.declared.meanings.Listing.TheVariants.{Lua, Lib, Bin, Conf}
use Rattle.build_targets.specs.declared.target.Target.{Target}
use Rattle.twofold_paths.specs.Places.{IsLeastTwofoldPath, IsTwofoldPath}
use Rattle.twofold_paths.specs.declared.place.Place.{Place}
use Rattle.twofold_paths.proofs.Moved.{StandApart, moved_apart}
use Rattle.twofold_paths.proofs.PlaceOrder.{equal_paths, not_less}
use Rattle.build_plan.specs.declared.fault.PlanFault.{PlanFault}
use Rattle.build_plan.specs.declared.fault.PlanFault.TheVariants.{BuildType, NoModules, External, Patches, NeedsCompiler, BadTarget, TwoForOne}
use Rattle.build_plan.specs.declared.plan.BuildPlan.TheVariants.{Build, Refused as Declined}
use Rattle.build_plan.specs.declared.recipe.Recipe.{Recipe}
use Rattle.build_plan.specs.declared.stop.Stop.{Stop}
use Rattle.build_plan.specs.declared.stop.Stop.TheVariants.{NoMemory, Refused}
use Rattle.build_plan.specs.Entries.{Entry, build_of, entries, entries_of, install_of, named_folders, table_at}
use Rattle.build_plan.specs.Plans.{blames, dest_cmp, fault_rank, folder_blame, path_of, HasPlan, HasPlanFault, IsFirstBlamed, IsTarget}
use Rattle.build_plan.specs.Steps.{blamed_in, entries_in, first_some, modules_in, places_of, targets_of, texts_in, IsInOrder, IsMet, IsPlanned, IsStopped}
use Rattle.build_plan.proofs.Apart.{at_contains, contains_at, is_target, least_from_places, target_at, to_places, two_folders_met, two_targets_met}
use Rattle.build_plan.proofs.DestOrder.{dest_equal, dest_total}
use Rattle.build_plan.proofs.Early.{entries_are, made_from}
use Rattle.build_plan.proofs.Firsts.{first_at, none_append, none_at, some_append}
use Rattle.build_plan.proofs.Meant.{blame_of}

pub ordered : (targets sorted files : List Target) (folders sorted_folders others : List (List ℕ)) → files ≡ sorted → others ≡ sorted_folders → IsPermutation targets sorted
    → IsSortedByKey (λ target. target.to) dest_cmp sorted → IsPermutation folders sorted_folders → IsSorted path_cmp sorted_folders
    → IsInOrder targets folders (record { files = files; folders = others })
ordered targets sorted files folders sorted_folders others same also moved up moved_folders up_folders = record {
  same = subst (λ (l : List Target). IsPermutation targets l) (sym same) moved;
  in_order = subst (λ (l : List Target). IsSortedByKey (λ (target : Target). target.to) dest_cmp l) (sym same) up;
  same_folders = subst (λ (l : List (List ℕ)). IsPermutation folders l) (sym also) moved_folders;
  folders_in_order = subst (λ (l : List (List ℕ)). IsSorted path_cmp l) (sym also) up_folders;
}

-- ---- lists that are strictly in order

all_less : {K : Type 0} (R : K → K → Ordering) (k : K) (ks : List K) → ((j : ℕ) (y : K) → slice_get ks j ≡ Some y → R k y ≡ Less) → AllByRecursion (λ y. R k y ≡ Less) ks
all_less R k [] less = tt
all_less R k (y ∷ ks) less = (less 0 y refl, all_less R k ks (λ j z is. less (suc j) z is))

pub strictly : {K : Type 0} (R : K → K → Ordering) (ks : List K) → ((i j : ℕ) (x y : K) → i < j → slice_get ks i ≡ Some x → slice_get ks j ≡ Some y → R x y ≡ Less) → IsStrictlySortedBy R ks
unfolding IsStrictlySortedBy
strictly R [] less = tt
strictly R (k ∷ ks) less = (
  all_less R k ks (λ j y is. less 0 (suc j) k y (omega arith) refl is),
  strictly R ks (λ i j x y below is is_too. less (suc i) (suc j) x y (omega arith) is is_too),
)

-- less, where neither greater nor equal
less_by : (o : Ordering) → o ≢ Greater → o ≢ Equal → o ≡ Less
less_by Less g e = refl
less_by Equal g e = absurd (e refl)
less_by Greater g e = absurd (g refl)

no_less : (o : Ordering) → is_lt o ≡ false → o ≢ Less
no_less Less h e = cc
no_less Equal h e = cc
no_less Greater h e = cc

-- by keys that are in order, and different at different places
module _ {X K : Type 0} {R : K → K → Ordering} (o : IsTotalOrder R) (equal : (x y : K) → R x y ≡ Equal → x ≡ y) (key : X → K) (xs : List X)
    (up : IsSortedBy (λ x y. is_lt (R (key x) (key y))) xs) (apart : (x y : X) → StandApart xs x y → key x ≢ key y) where
  rises : (i j : ℕ) (x y : X) → i < j → slice_get xs i ≡ Some x → slice_get xs j ≡ Some y → R (key x) (key y) ≡ Less
  rises i j x y below is is_too =
      let far = sorted_far (λ (a : X) (b : X). is_lt (R (key a) (key b))) (ranks_by o key) xs up i j x (omega arith) (slice_get_within xs j y is_too) in
      let here = subst (λ (a : X). is_lt (R (key (get_or xs j x)) (key a)) ≡ false) (get_or_from_slice_get xs i x x is) far in
      let both = subst (λ (a : X). is_lt (R (key a) (key x)) ≡ false) (get_or_from_slice_get xs j y x is_too) here in
      less_by (R (key x) (key y)) (not_less o (key y) (key x) (no_less (R (key y) (key x)) both))
      (λ e. apart x y (record { first = i; second = j; apart = λ same. absurd (omega arith); is_first = is; is_second = is_too }) (equal (key x) (key y) e))

  pub keys_rise : IsStrictlySortedBy R (map key xs)
  keys_rise = strictly R (map key xs) (λ i j k l below is is_too.
      let x = made_from key xs i k is in
      let y = made_from key xs j l is_too in
      subst (λ (z : K). R k z ≡ Less) y.2 (subst (λ (z : K). R z (key y.0) ≡ Less) x.2 (rises i j x.0 y.0 below x.1 y.1)))

-- ---- what has no meaning

module _ (rockspec : List ℕ) (fields : Pairs) where
  pub blamed_first : (text : List ℕ) → first_some (blames rockspec fields) ≡ Some text → IsFirstBlamed rockspec fields text
  blamed_first text some = let found = first_at (blames rockspec fields) text some in record { place = found.place; is = found.is; first = found.first }

  pub none_blamed : first_some (blames rockspec fields) ≡ None → (text : List ℕ) → IsFirstBlamed rockspec fields text → ⊥
  none_blamed none text is = none_at (blames rockspec fields) none is.place text is.is

-- ---- the steps, one after the other

module _ (rockspec : List ℕ) (fields build modules install : Pairs) (is_build : build ≡ build_of fields) (are_modules : modules ≡ modules_in build)
    (is_install : install ≡ table_at (codes "install") build) (passed : (fault : PlanFault) → HasPlanFault rockspec fields fault → 5 ≤ fault_rank fault) where
  installed : install ≡ install_of fields
  installed = is_install ∙ ap (table_at (codes "install")) is_build

  abbrev lists : Pairs → List Entry
  lists ps = entries_of Lua (table_at (codes "lua") ps) ++ (entries_of Lib (table_at (codes "lib") ps) ++ (entries_of Bin (table_at (codes "bin") ps) ++ entries_of Conf (table_at (codes "conf") ps)))

  all_entries : entries_in modules install ≡ entries fields
  all_entries = let mine = entries_are fields build modules is_build are_modules in λ i. mine i ++ lists (installed i)

  pub targets_stop : (stop : Stop) → IsStopped (blamed_in (entries_in modules install)) stop → IsPlanned rockspec fields (Err stop)
  targets_stop NoMemory h = tt
  targets_stop (Refused fault) h =
      let blamed = sym (ap blamed_in all_entries) ∙ h.2 in
      let some = some_append (map blame_of (entries fields)) (map (folder_blame rockspec) (named_folders fields)) h.0 blamed in
      subst (λ (f : PlanFault). HasPlan rockspec fields (Declined f)) (sym h.1) (record { has = blamed_first rockspec fields h.0 some; first = passed })

  module _ (named : Pairs) (unblamed : blamed_in (entries_in modules install) ≡ None) (is_named : named ≡ table_at (codes "copy_directories") build) where
    all_mean : blamed_in (entries fields) ≡ None
    all_mean = sym (ap blamed_in all_entries) ∙ unblamed

    its_texts : texts_in named ≡ named_folders fields
    its_texts = ap texts_in (is_named ∙ ap (table_at (codes "copy_directories")) is_build)

    blames_are : (found : Option (List ℕ)) → first_some (map (folder_blame rockspec) (texts_in named)) ≡ found → first_some (blames rockspec fields) ≡ found
    blames_are found h =
        none_append (map blame_of (entries fields)) (map (folder_blame rockspec) (named_folders fields)) all_mean
        ∙ ap (λ (l : List (List ℕ)). first_some (map (folder_blame rockspec) l)) (sym its_texts) ∙ h

    pub folders_stop : (stop : Stop) → IsStopped (first_some (map (folder_blame rockspec) (texts_in named))) stop → IsPlanned rockspec fields (Err stop)
    folders_stop NoMemory h = tt
    folders_stop (Refused fault) h =
        subst (λ (f : PlanFault). HasPlan rockspec fields (Declined f)) (sym h.1) (record { has = blamed_first rockspec fields h.0 (blames_are (Some h.0) h.2); first = passed })

    module _ (targets : List Target) (folders : List (List ℕ)) (are_targets : targets ≡ targets_of (entries_in modules install)) (are_folders : folders ≡ map source (texts_in named))
        (unblamed_folders : first_some (map (folder_blame rockspec) (texts_in named)) ≡ None) where
      its_targets : targets ≡ targets_of (entries fields)
      its_targets = are_targets ∙ ap targets_of all_entries

      its_folders : folders ≡ map source (named_folders fields)
      its_folders = are_folders ∙ ap (map source) its_texts

      none_before_six : (fault : PlanFault) → HasPlanFault rockspec fields fault → 6 ≤ fault_rank fault
      none_before_six (BuildType told) has = let early = passed (BuildType told) has in absurd (omega arith)
      none_before_six NoModules has = let early = passed NoModules has in absurd (omega arith)
      none_before_six External has = let early = passed External has in absurd (omega arith)
      none_before_six Patches has = let early = passed Patches has in absurd (omega arith)
      none_before_six (NeedsCompiler name) has = let early = passed (NeedsCompiler name) has in absurd (omega arith)
      none_before_six (BadTarget text) has = absurd (none_blamed rockspec fields (blames_are None unblamed_folders) text has)
      none_before_six (TwoForOne path) has = omega arith

      pub apart_stops : (stop : Stop) → IsMet (places_of targets folders) stop → IsPlanned rockspec fields (Err stop)
      apart_stops NoMemory h = tt
      apart_stops (Refused fault) h =
          let least = subst (λ (l : List Place). IsLeastTwofoldPath l h.0) (λ i. places_of (its_targets i) (its_folders i)) h.2 in
          subst (λ (f : PlanFault). HasPlan rockspec fields (Declined f)) (sym h.1) (record { has = least_from_places fields all_mean h.0 least; first = none_before_six })

      module _ (apart : (path : List ℕ) → IsTwofoldPath (places_of targets folders) path → ⊥) where
        none_met : (path : List ℕ) → IsTwofoldPath (places_of (targets_of (entries fields)) (map source (named_folders fields))) path → ⊥
        none_met path is = apart path (subst (λ (l : List Place). IsTwofoldPath l path) (λ i. places_of (sym its_targets i) (sym its_folders i)) is)

        no_fault : (fault : PlanFault) → HasPlanFault rockspec fields fault → ⊥
        no_fault (BuildType told) has = let early = passed (BuildType told) has in absurd (omega arith)
        no_fault NoModules has = let early = passed NoModules has in absurd (omega arith)
        no_fault External has = let early = passed External has in absurd (omega arith)
        no_fault Patches has = let early = passed Patches has in absurd (omega arith)
        no_fault (NeedsCompiler name) has = let early = passed (NeedsCompiler name) has in absurd (omega arith)
        no_fault (BadTarget text) has = none_blamed rockspec fields (blames_are None unblamed_folders) text has
        no_fault (TwoForOne path) has = none_met path (to_places fields all_mean path has.is)

        module _ (recipe : Recipe) (order : IsInOrder targets folders recipe) where
          moved : IsPermutation (targets_of (entries fields)) recipe.files
          moved = subst (λ (l : List Target). IsPermutation l recipe.files) its_targets order.same

          moved_folders : IsPermutation (map source (named_folders fields)) recipe.folders
          moved_folders = subst (λ (l : List (List ℕ)). IsPermutation l recipe.folders) its_folders order.same_folders

          files_apart : (x y : Target) → StandApart recipe.files x y → x.to ≢ y.to
          files_apart x y two same =
              none_met (path_of y.to) (two_targets_met fields all_mean x y (moved_apart recipe.files (targets_of (entries fields)) x y (IsPermutation-sym (targets_of (entries fields)) recipe.files moved) two) same)

          folders_apart : (x y : List ℕ) → StandApart recipe.folders x y → x ≢ y
          folders_apart x y two same =
              none_met y (two_folders_met fields all_mean x y (moved_apart recipe.folders (map source (named_folders fields)) x y (IsPermutation-sym (map source (named_folders fields)) recipe.folders moved_folders) two) same)

          has_files : (target : Target) → Contains recipe.files target ↔ IsTarget fields target
          has_files target = (
            λ has.
                let there = at_contains (targets_of (entries fields)) target (Contains-permutation recipe.files (targets_of (entries fields)) target (IsPermutation-sym (targets_of (entries fields)) recipe.files moved) has) in
                is_target fields all_mean there.0 target there.1,
            λ is.
                let there = target_at fields all_mean target is in
                Contains-permutation (targets_of (entries fields)) recipe.files target moved (contains_at (targets_of (entries fields)) there.0 target there.1),
          )

          has_folders : (folder : List ℕ) → Contains recipe.folders folder ↔ Contains (map source (named_folders fields)) folder
          has_folders folder = (
            Contains-permutation recipe.folders (map source (named_folders fields)) folder (IsPermutation-sym (map source (named_folders fields)) recipe.folders moved_folders),
            Contains-permutation (map source (named_folders fields)) recipe.folders folder moved_folders,
          )

          pub planned : HasPlan rockspec fields (Build recipe)
          planned = (
            no_fault,
            record {
              sorted = keys_rise dest_total dest_equal (λ (target : Target). target.to) recipe.files order.in_order files_apart;
              files = has_files;
              sorted_folders = subst (IsStrictlySortedBy path_cmp) (map-id recipe.folders) (keys_rise nat_list_cmp_total equal_paths (λ (folder : List ℕ). folder) recipe.folders order.folders_in_order folders_apart);
              folders = has_folders;
            },
          )
