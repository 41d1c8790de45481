-- Laws of plans.
use Rattle.std.proofs.Common.{◌≡◌, ◌≢◌, ◌⊎◌, inl, inr, ⊎_elim, ◌<◌, ℕ, zero, suc, List, [], ◌∷◌, ◌++◌, get_or, map, refl, sym, ap, ◌∙◌, subst, Bool, true, false, Option, Some, None, Ok, codes, arith}
use Rattle.std.specs.Prelude.{slice_get, Contains, if◌then◌else◌}
use Rattle.std.specs.Cmp.{IsTotalOrder}
use Rattle.std.specs.List.{AllByRecursion, AllPairs}
use Rattle.std.specs.List.Sorted.{IsStrictlySortedBy}
use Rattle.std.specs.Ordering.{ordering_reverse}
use Rattle.std.specs.declared.cmp.Ordering.{Ordering}
use Rattle.std.specs.declared.cmp.Ordering.TheVariants.{Less, Equal, Greater}
use Rattle.std.proofs.lemmas.Bool.{cases_order}
use Rattle.std.proofs.lemmas.Cmp.{nat_list_cmp_total, tied_itself}
use Rattle.std.proofs.lemmas.List.{map-id}
use Rattle.std.proofs.lemmas.List.Elements.{Contains-append_cases, Contains-get_or}
use Rattle.std.proofs.lemmas.List.Kept.{AllPairs-cons}
use Rattle.lua_value.specs.Pairs.{Pairs, listed}
use Rattle.rocks_text.specs.Files.{path_cmp}
use Rattle.rocks_text.specs.Paths.{IsFolderOf}
use Rattle.build_targets.specs.Meanings.{source}
use Rattle.build_targets.specs.declared.meanings.Listing.{Listing}
use Rattle.build_targets.specs.declared.meanings.Listing.TheVariants.{Modules, Lua, Lib, Bin, Conf}
use Rattle.build_targets.specs.declared.target.Target.{Target}
use Rattle.twofold_paths.proofs.Fewest.{none_without_least}
use Rattle.twofold_paths.proofs.PlaceOrder.{equal_paths, folder_differs}
use Rattle.build_plan.specs.declared.fault.PlanFault.{PlanFault}
use Rattle.build_plan.specs.declared.fault.PlanFault.TheVariants.{BuildType, NoModules, External, Patches, NeedsCompiler, BadTarget, TwoForOne}
use Rattle.build_plan.specs.declared.plan.BuildPlan.{BuildPlan}
use Rattle.build_plan.specs.declared.plan.BuildPlan.TheVariants.{Build, Refused}
use Rattle.build_plan.specs.declared.recipe.Recipe.{Recipe}
use Rattle.build_plan.specs.Entries.{Entry, build_of, entries, entries_of, install_of, is_builtin, meaning, module_entries, named_folders, table_at}
use Rattle.build_plan.specs.Plans.{blames, fault_rank, folder_blame, key_bytes, path_of, sort_of, HasPlan, HasPlanFault, IsFirstBlamed, IsFirstCompiled, IsLeastTwofold, IsRecipe, IsTwofold}
use Rattle.build_plan.specs.Steps.{blamed_in, first_some, places_of, targets_of}
use Rattle.build_plan.proofs.Apart.{at_contains, least_from_places, to_places}
use Rattle.build_plan.proofs.DestOrder.{dest_total}
use Rattle.build_plan.proofs.Early.{made_from}
use Rattle.build_plan.proofs.Firsts.{cons_none, none_cons}
use Rattle.build_plan.proofs.Meant.{blame_of, entry_of}
use Rattle.build_plan.proofs.Planned.{blamed_first}

-- ---- one fault

one_some : {X : Type 0} (o : Option X) (x y : X) → o ≡ Some x → o ≡ Some y → x ≡ y
one_some o x y e f = let both = sym e ∙ f in cc

module _ (fields : Pairs) (left right : List ℕ) (is : IsFirstCompiled fields left) (too : IsFirstCompiled fields right) where
  not_earlier : (one other : List ℕ) (a : IsFirstCompiled fields one) (b : IsFirstCompiled fields other) → a.place < b.place → ⊥
  not_earlier one other a b less = let lua = b.first a.place a.entry less a.is in let clash = sym a.compiled ∙ lua in cc clash

  compiled_at : is.place ≡ too.place → left ≡ right
  compiled_at same =
      let entries_same = one_some (slice_get (module_entries fields) too.place) is.entry too.entry (ap (slice_get (module_entries fields)) (sym same) ∙ is.is) too.is in
      is.named ∙ ap (λ (entry : Entry). key_bytes entry.key) entries_same ∙ sym too.named

  pub one_compiled : left ≡ right
  one_compiled =
      ⊎_elim compiled_at (⊎_elim (λ less. absurd (not_earlier left right is too less)) (λ more. absurd (not_earlier right left too is more))) (cases_order is.place too.place)

module _ (rockspec : List ℕ) (fields : Pairs) (left right : List ℕ) (is : IsFirstBlamed rockspec fields left) (too : IsFirstBlamed rockspec fields right) where
  blamed_at : is.place ≡ too.place → left ≡ right
  blamed_at same =
      let both = one_some (slice_get (blames rockspec fields) too.place) (Some left) (Some right) (ap (slice_get (blames rockspec fields)) (sym same) ∙ is.is) too.is in
      cc

  pub one_blamed : left ≡ right
  one_blamed =
      ⊎_elim blamed_at (⊎_elim (λ less. absurd (too.first is.place left less is.is)) (λ more. absurd (is.first too.place right more too.is))) (cases_order is.place too.place)

neither_by : (x y : List ℕ) (o : Ordering) → path_cmp x y ≡ o → o ≢ Greater → path_cmp y x ≢ Greater → x ≡ y
neither_by x y Less e g h = absurd (h (nat_list_cmp_total.antisymm y x ∙ ap ordering_reverse e))
neither_by x y Equal e g h = equal_paths x y e
neither_by x y Greater e g h = absurd (g refl)

one_least : (fields : Pairs) (left right : List ℕ) → IsLeastTwofold fields left → IsLeastTwofold fields right → left ≡ right
one_least fields left right is too = neither_by left right (path_cmp left right) refl (is.least right too.is) (too.least left is.is)

one_fault : (rockspec : List ℕ) (fields : Pairs) (left right : PlanFault) → HasPlanFault rockspec fields left → HasPlanFault rockspec fields right → fault_rank left ≡ fault_rank right → left ≡ right
one_fault rockspec fields (BuildType left) (BuildType right) is too same = ap BuildType (is.0 ∙ sym too.0)
one_fault rockspec fields NoModules NoModules is too same = refl
one_fault rockspec fields External External is too same = refl
one_fault rockspec fields Patches Patches is too same = refl
one_fault rockspec fields (NeedsCompiler left) (NeedsCompiler right) is too same = ap NeedsCompiler (one_compiled fields left right is too)
one_fault rockspec fields (BadTarget left) (BadTarget right) is too same = ap BadTarget (one_blamed rockspec fields left right is too)
one_fault rockspec fields (TwoForOne left) (TwoForOne right) is too same = ap TwoForOne (one_least fields left right is too)
one_fault rockspec fields left right is too same = absurd (omega arith)

-- ---- one recipe

cons_cases : {X : Type 0} (x : X) (xs : List X) (y : X) → Contains (x ∷ xs) y → (x ≡ y) ⊎ Contains xs y
cons_cases x xs y (zero, within, is) = inl is
cons_cases x xs y (suc k, within, is) = inr (k, omega arith, is)

cons_here : {X : Type 0} (x : X) (xs : List X) → Contains (x ∷ xs) x
cons_here x xs = (0, omega arith, refl)

cons_behind : {X : Type 0} (x : X) (xs : List X) (y : X) → Contains xs y → Contains (x ∷ xs) y
cons_behind x xs y (k, within, is) = (suc k, omega arith, is)

nil_none : {X : Type 0} (y : X) → Contains [] y → ⊥
nil_none y (k, within, is) = absurd (omega arith)

module _ {X K : Type 0} {R : K → K → Ordering} (o : IsTotalOrder R) (key : X → K) where
  -- the keys rise
  abbrev Rises : List X → Type 0
  Rises [] = Unit {0}
  Rises (x ∷ xs) = ((y : X) → Contains xs y → R (key x) (key y) ≡ Less) × Rises xs

  all_less : (x : X) (xs : List X) → AllByRecursion (λ k. R (key x) k ≡ Less) (map key xs) → (y : X) → Contains xs y → R (key x) (key y) ≡ Less
  all_less x [] all y has = absurd (nil_none y has)
  all_less x (z ∷ xs) all y has = ⊎_elim (λ e. subst (λ (w : X). R (key x) (key w) ≡ Less) e all.0) (λ more. all_less x xs all.1 y more) (cons_cases z xs y has)

  pub rises : (xs : List X) → IsStrictlySortedBy R (map key xs) → Rises xs
  unfolding IsStrictlySortedBy
  rises [] up = tt
  rises (x ∷ xs) up = (all_less x xs up.0, rises xs up.1)

  not_itself : (x y : X) → R (key x) (key y) ≡ Less → x ≢ y
  not_itself x y less same =
      let tie = tied_itself o (key x) in
      let clash = sym tie ∙ ap (λ (z : X). R (key x) (key z)) same ∙ less in
      cc clash

  not_both : (x y : X) → R (key x) (key y) ≡ Less → R (key y) (key x) ≡ Less → ⊥
  not_both x y less more = let back = o.antisymm (key x) (key y) ∙ ap ordering_reverse more in let clash = sym less ∙ back in cc clash

  same_heads : (x y : X) (xs ys : List X) → Rises (x ∷ xs) → Rises (y ∷ ys) → Contains (y ∷ ys) x → Contains (x ∷ xs) y → x ≡ y
  same_heads x y xs ys up over x_there y_here =
      ⊎_elim (λ e. sym e) (λ x_behind. ⊎_elim (λ e. e) (λ y_behind. absurd (not_both x y (up.0 y y_behind) (over.0 x x_behind))) (cons_cases x xs y y_here)) (cons_cases y ys x x_there)

  -- what is behind the one head is behind the other
  tail_has : (x y : X) (xs ys : List X) → Rises (x ∷ xs) → x ≡ y → ((z : X) → Contains (x ∷ xs) z → Contains (y ∷ ys) z) → (z : X) → Contains xs z → Contains ys z
  tail_has x y xs ys up same has z here =
      ⊎_elim (λ e. absurd (not_itself x z (up.0 z here) (same ∙ e))) (λ more. more) (cons_cases y ys z (has z (cons_behind x xs z here)))

  pub one_rising : (xs ys : List X) → Rises xs → Rises ys → ((z : X) → Contains xs z → Contains ys z) → ((z : X) → Contains ys z → Contains xs z) → xs ≡ ys
  one_rising [] [] up over has back = refl
  one_rising [] (y ∷ ys) up over has back = absurd (nil_none y (back y (cons_here y ys)))
  one_rising (x ∷ xs) [] up over has back = absurd (nil_none x (has x (cons_here x xs)))
  one_rising (x ∷ xs) (y ∷ ys) up over has back =
      let first = same_heads x y xs ys up over (has x (cons_here x xs)) (back y (cons_here y ys)) in
      let rest = one_rising xs ys up.1 over.1 (tail_has x y xs ys up first has) (tail_has y x ys xs over (sym first) back) in
      λ i. first i ∷ rest i

  pub all_differ : (xs : List X) → Rises xs → AllPairs (λ x y. key x ≢ key y) xs
  all_differ [] up = λ i j d less within. absurd (omega arith)
  all_differ (x ∷ xs) up =
      AllPairs-cons (λ (y : X) (z : X). key y ≢ key z) x xs
      (λ k d within same.
      let less = up.0 (get_or xs k d) (Contains-get_or xs k d within) in
      let tie = tied_itself o (key x) in
      let clash = sym tie ∙ ap (R (key x)) same ∙ less in
      cc clash) (all_differ xs up.1)

one_recipe : (fields : Pairs) (left right : Recipe) → IsRecipe fields left → IsRecipe fields right → left ≡ right
one_recipe fields left right is too =
    let files = one_rising dest_total (λ (target : Target). target.to) left.files right.files (rises dest_total (λ (target : Target). target.to) left.files is.sorted) (rises dest_total (λ (target : Target). target.to) right.files too.sorted)
    (λ target has. (too.files target).1 ((is.files target).0 has)) (λ target has. (is.files target).1 ((too.files target).0 has)) in
    let folders = one_rising nat_list_cmp_total (λ (folder : List ℕ). folder) left.folders right.folders
    (rises nat_list_cmp_total (λ (folder : List ℕ). folder) left.folders (subst (IsStrictlySortedBy path_cmp) (sym (map-id left.folders)) is.sorted_folders))
    (rises nat_list_cmp_total (λ (folder : List ℕ). folder) right.folders (subst (IsStrictlySortedBy path_cmp) (sym (map-id right.folders)) too.sorted_folders))
    (λ folder has. (too.folders folder).1 ((is.folders folder).0 has)) (λ folder has. (is.folders folder).1 ((too.folders folder).0 has)) in
    λ i. record { files = files i; folders = folders i }

pub only_plan : (rockspec : List ℕ) (fields : Pairs) (left right : BuildPlan) → HasPlan rockspec fields left → HasPlan rockspec fields right → left ≡ right
only_plan rockspec fields (Refused left) (Refused right) is too =
    let le = is.first right too.has in
    let ge = too.first left is.has in
    ap Refused (one_fault rockspec fields left right is.has too.has (omega arith))
only_plan rockspec fields (Refused left) (Build right) is too = absurd (too.0 left is.has)
only_plan rockspec fields (Build left) (Refused right) is too = absurd (is.0 right too.has)
only_plan rockspec fields (Build left) (Build right) is too = ap Build (one_recipe fields left right is.1 too.1)

-- ---- what stands beside each other

unblamed_front : (xs ys : List (Option (List ℕ))) → first_some (xs ++ ys) ≡ None → first_some xs ≡ None
unblamed_front [] ys h = refl
unblamed_front (o ∷ xs) ys h = let parts = cons_none o (xs ++ ys) h in none_cons o xs parts.0 (unblamed_front xs ys parts.1)

unless_some : (o : Option (List ℕ)) → ((text : List ℕ) → o ≡ Some text → ⊥) → o ≡ None
unless_some None h = refl
unless_some (Some text) h = absurd (h text refl)

module _ (rockspec : List ℕ) (fields : Pairs) (recipe : Recipe) (plan : HasPlan rockspec fields (Build recipe)) where
  all_mean : blamed_in (entries fields) ≡ None
  all_mean =
      unblamed_front (map blame_of (entries fields)) (map (folder_blame rockspec) (named_folders fields))
      (unless_some (first_some (blames rockspec fields)) (λ text some. plan.0 (BadTarget text) (blamed_first rockspec fields text some)))

  none_twofold : (path : List ℕ) → IsTwofold fields path → ⊥
  none_twofold path is =
      none_without_least (places_of (targets_of (entries fields)) (map source (named_folders fields)))
      (λ least is_least. plan.0 (TwoForOne least) (least_from_places fields all_mean least is_least)) path (to_places fields all_mean path is)

  pub targets_differ : AllPairs (λ target other. target.to ≢ other.to) recipe.files
  targets_differ = all_differ dest_total (λ (target : Target). target.to) recipe.files (rises dest_total (λ (target : Target). target.to) recipe.files plan.1.sorted)

  pub folders_differ : AllPairs (λ folder other. folder ≢ other) recipe.folders
  folders_differ =
      all_differ nat_list_cmp_total (λ (folder : List ℕ). folder) recipe.folders
      (rises nat_list_cmp_total (λ (folder : List ℕ). folder) recipe.folders (subst (IsStrictlySortedBy path_cmp) (sym (map-id recipe.folders)) plan.1.sorted_folders))

  pub targets_beside : (upper lower : Target) → Contains recipe.files upper → Contains recipe.files lower → sort_of upper.to ≡ sort_of lower.to → IsFolderOf (path_of upper.to) (path_of lower.to) → ⊥
  targets_beside upper lower has has_too sorts folder =
      none_twofold (path_of lower.to) (inr (inl (record {
        upper = upper;
        lower = lower;
        is_upper = (plan.1.files upper).0 has;
        is_lower = (plan.1.files lower).0 has_too;
        one_sort = sorts;
        folder = folder;
        at = refl;
      })))

  named_at : (folder : List ℕ) → Contains recipe.folders folder → (k : ℕ) × (named : List ℕ) × (slice_get (named_folders fields) k ≡ Some named) × (source named ≡ folder)
  named_at folder has =
      let there = at_contains (map source (named_folders fields)) folder ((plan.1.folders folder).0 has) in
      let named = made_from source (named_folders fields) there.0 folder there.1 in
      (there.0, named.0, named.1, named.2)

  pub folders_beside : (folder other : List ℕ) → Contains recipe.folders folder → Contains recipe.folders other → IsFolderOf folder other → ⊥
  folders_beside folder other has has_too within =
      let upper = named_at folder has in
      let lower = named_at other has_too in
      none_twofold (source lower.1) (inr (inr (record {
        first = lower.0;
        second = upper.0;
        folder = lower.1;
        other = upper.1;
        apart = λ e.
            let same = one_some (slice_get (named_folders fields) upper.0) lower.1 upper.1 (ap (slice_get (named_folders fields)) (sym e) ∙ lower.2) upper.2 in
            folder_differs folder other within (sym upper.3 ∙ ap source (sym same) ∙ lower.3);
        is = lower.2;
        is_other = upper.2;
        within = inr (subst (λ (p : List ℕ). IsFolderOf (source upper.1) p) (sym lower.3) (subst (λ (p : List ℕ). IsFolderOf p other) (sym upper.3) within));
        at = refl;
      })))

-- ---- listings

listing_is : (listing : Listing) (ps : Pairs) (entry : Entry) → Contains (entries_of listing ps) entry → entry.listing ≡ listing
listing_is listing ps entry has =
    let there = at_contains (entries_of listing ps) entry has in
    let pair = made_from (entry_of listing) (listed ps) there.0 entry there.1 in
    ap (λ (e : Entry). e.listing) (sym pair.2)

no_modules : (builtin : Bool) (modules : List Entry) → builtin ≡ false → (entry : Entry) → Contains (if builtin then modules else []) entry → ⊥
no_modules true modules h entry has = absurd cc
no_modules false modules h entry has = nil_none entry has

pub not_of_modules : (fields : Pairs) (entry : Entry) → is_builtin fields ≡ false → Contains (entries fields) entry → entry.listing ≢ Modules
not_of_modules fields entry other has same =
    let install = install_of fields in
    let lua = entries_of Lua (table_at (codes "lua") install) in
    let lib = entries_of Lib (table_at (codes "lib") install) in
    let bin = entries_of Bin (table_at (codes "bin") install) in
    let conf = entries_of Conf (table_at (codes "conf") install) in
    ⊎_elim (no_modules (is_builtin fields) (entries_of Modules (table_at (codes "modules") (build_of fields))) other entry)
    (λ behind. ⊎_elim (λ here. let clash = sym same ∙ listing_is Lua (table_at (codes "lua") install) entry here in cc clash)
    (λ behind. ⊎_elim (λ here. let clash = sym same ∙ listing_is Lib (table_at (codes "lib") install) entry here in cc clash)
    (λ behind. ⊎_elim (λ here. let clash = sym same ∙ listing_is Bin (table_at (codes "bin") install) entry here in cc clash)
    (λ here. let clash = sym same ∙ listing_is Conf (table_at (codes "conf") install) entry here in cc clash)
    (Contains-append_cases bin conf entry behind)) (Contains-append_cases lib (bin ++ conf) entry behind)) (Contains-append_cases lua (lib ++ (bin ++ conf)) entry behind))
    (Contains-append_cases (module_entries fields) (lua ++ (lib ++ (bin ++ conf))) entry has)

pub target_not_of_modules : (rockspec : List ℕ) (fields : Pairs) (recipe : Recipe) (target : Target) → is_builtin fields ≡ false → HasPlan rockspec fields (Build recipe) → Contains recipe.files target
    → (entry : Entry) × Contains (entries fields) entry × (meaning entry ≡ Ok target) × (entry.listing ≢ Modules)
target_not_of_modules rockspec fields recipe target other plan has =
    let is = (plan.1.files target).0 has in
    (is.entry, is.among, is.means, not_of_modules fields is.entry other is.among)
