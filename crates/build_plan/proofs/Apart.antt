-- Twofold paths of a build are those of the places of its targets and folders.
use Rattle.std.proofs.Common.{◌≡◌, ◌⊎◌, inl, inr, ⊎_elim, ◌+◌, ◌<◌, ℕ, zero, suc, List, [], ◌∷◌, ◌++◌, length, map, refl, sym, ap, ◌∙◌, subst, Some, None, Ok, arith}
use Rattle.std.specs.Prelude.{slice_get, Contains}
use Rattle.std.proofs.lemmas.Bool.{cases_order}
use Rattle.std.proofs.lemmas.Option.{get_or_from_slice_get, slice_get-get_or, slice_get_within}
use Rattle.lua_value.specs.Pairs.{Pairs}
use Rattle.rocks_text.specs.Paths.{IsFolderOf}
use Rattle.build_targets.specs.Meanings.{source}
use Rattle.build_targets.specs.declared.target.Target.{Target}
use Rattle.twofold_paths.specs.Places.{IsTwofoldPath, IsLeastTwofoldPath}
use Rattle.twofold_paths.specs.declared.place.Place.{Place}
use Rattle.twofold_paths.proofs.Moved.{StandApart}
use Rattle.twofold_paths.proofs.PlaceOrder.{folder_differs}
use Rattle.build_plan.specs.Entries.{Entry, entries, meaning, named_folders}
use Rattle.build_plan.specs.Plans.{path_of, sort_of, IsBelowTarget, IsFolderTwice, IsLeastTwofold, IsTarget, IsTwice, IsTwofold}
use Rattle.build_plan.specs.Steps.{blamed_in, folder_place, place_of, places_of, targets_of}
use Rattle.build_plan.proofs.DestOrder.{dests_equal, sort_below}
use Rattle.build_plan.proofs.Early.{made_from, made_there}
use Rattle.build_plan.proofs.Meant.{entry_behind, target_there}

-- ---- places in a row of two lists

front_there : {X : Type 0} (xs ys : List X) (k : ℕ) (x : X) → slice_get xs k ≡ Some x → slice_get (xs ++ ys) k ≡ Some x
front_there [] ys k x is = absurd cc
front_there (first ∷ xs) ys zero x is = is
front_there (first ∷ xs) ys (suc k) x is = front_there xs ys k x is

back_there : {X : Type 0} (xs ys : List X) (k : ℕ) (x : X) → slice_get ys k ≡ Some x → slice_get (xs ++ ys) (length xs + k) ≡ Some x
back_there {X} [] ys k x is = let e : 0 + k ≡ k = omega arith in subst (λ (n : ℕ). slice_get ys n ≡ Some x) (sym e) is
back_there {X} (first ∷ xs) ys k x is =
    let e : suc (length xs + k) ≡ suc (length xs) + k = omega arith in
    subst (λ (n : ℕ). slice_get (first ∷ (xs ++ ys)) n ≡ Some x) e (back_there xs ys k x is)

record IsBehind {X : Type 0} (xs ys : List X) (k : ℕ) (x : X) : Type 0 where
  at : ℕ
  place : k ≡ length xs + at
  there : slice_get ys at ≡ Some x

which : {X : Type 0} (xs ys : List X) (k : ℕ) (x : X) → slice_get (xs ++ ys) k ≡ Some x → (slice_get xs k ≡ Some x) ⊎ IsBehind xs ys k x
which [] ys k x is = inr (record { at = k; place = omega arith; there = is })
which (first ∷ xs) ys zero x is = inl is
which (first ∷ xs) ys (suc k) x is =
    ⊎_elim (λ front. inl front) (λ (back : IsBehind xs ys k x). inr (record { at = back.at; place = let e = back.place in omega arith; there = back.there })) (which xs ys k x is)

pub contains_at : {X : Type 0} (xs : List X) (k : ℕ) (x : X) → slice_get xs k ≡ Some x → Contains xs x
contains_at xs k x is = (k, slice_get_within xs k x is, get_or_from_slice_get xs k x x is)

pub at_contains : {X : Type 0} (xs : List X) (x : X) → Contains xs x → (k : ℕ) × (slice_get xs k ≡ Some x)
at_contains xs x has = (has.0, slice_get-get_or xs has.0 x has.1 ∙ ap Some has.2)

folder_along : (a b c d : List ℕ) → a ≡ c → b ≡ d → IsFolderOf a b → IsFolderOf c d
folder_along a b c d e f is = subst (λ (p : List ℕ). IsFolderOf p d) e (subst (λ (p : List ℕ). IsFolderOf a p) f is)

-- ---- targets

module _ (fields : Pairs) (all_mean : blamed_in (entries fields) ≡ None) where
  files : List Target
  files = targets_of (entries fields)

  pub is_target : (k : ℕ) (target : Target) → slice_get (targets_of (entries fields)) k ≡ Some target → IsTarget fields target
  is_target k target is =
      let found = entry_behind (entries fields) all_mean k target is in
      record { entry = found.entry; among = contains_at (entries fields) k found.entry found.is; means = found.means }

  pub entry_target : (k : ℕ) (entry : Entry) (target : Target) → slice_get (entries fields) k ≡ Some entry → meaning entry ≡ Ok target → slice_get (targets_of (entries fields)) k ≡ Some target
  entry_target k entry target is means =
      let found = target_there (entries fields) all_mean k entry is in
      let both = sym found.means ∙ means in
      let same : found.target ≡ target = cc in
      found.there ∙ ap Some same

  pub target_at : (target : Target) → IsTarget fields target → (k : ℕ) × (slice_get (targets_of (entries fields)) k ≡ Some target)
  target_at target is =
      let place = at_contains (entries fields) is.entry is.among in
      (place.0, entry_target place.0 is.entry target place.1 is.means)

  -- ---- places of targets and folders

  place_there : (k : ℕ) (target : Target) → slice_get (targets_of (entries fields)) k ≡ Some target → slice_get (places_of (targets_of (entries fields)) (map source (named_folders fields))) k ≡ Some (place_of target.to)
  place_there k target is =
      front_there (map (λ (t : Target). place_of t.to) (targets_of (entries fields))) (map folder_place (map source (named_folders fields))) k (place_of target.to)
      (made_there (λ (t : Target). place_of t.to) (targets_of (entries fields)) k target is)

  count : ℕ
  count = length (map (λ (t : Target). place_of t.to) (targets_of (entries fields)))

  folder_there : (k : ℕ) (folder : List ℕ) → slice_get (named_folders fields) k ≡ Some folder
      → slice_get (places_of (targets_of (entries fields)) (map source (named_folders fields))) (length (map (λ (t : Target). place_of t.to) (targets_of (entries fields))) + k) ≡ Some (folder_place (source folder))
  folder_there k folder is =
      back_there (map (λ (t : Target). place_of t.to) (targets_of (entries fields))) (map folder_place (map source (named_folders fields))) k (folder_place (source folder))
      (made_there folder_place (map source (named_folders fields)) k (source folder) (made_there source (named_folders fields) k folder is))

  Path : List ℕ → Type 0
  Path path = IsTwofoldPath (places_of (targets_of (entries fields)) (map source (named_folders fields))) path

  from_twice : (path : List ℕ) → IsTwice fields path → IsTwofoldPath (places_of (targets_of (entries fields)) (map source (named_folders fields))) path
  from_twice path is = record {
    first = is.first;
    second = is.second;
    upper = place_of is.target.to;
    lower = place_of is.again.to;
    apart = λ e. let less = is.apart in absurd (omega arith);
    is_upper = place_there is.first is.target (entry_target is.first is.entry is.target is.is is.means);
    is_lower = place_there is.second is.again (entry_target is.second is.other is.again is.is_other is.means_too);
    one_sort = ap sort_of is.same;
    within = inl (ap path_of is.same);
    at = is.at ∙ ap path_of is.same;
  }

  from_below : (path : List ℕ) → IsBelowTarget fields path → IsTwofoldPath (places_of (targets_of (entries fields)) (map source (named_folders fields))) path
  from_below path is =
      let upper = target_at is.upper is.is_upper in
      let lower = target_at is.lower is.is_lower in
      record {
        first = upper.0;
        second = lower.0;
        upper = place_of is.upper.to;
        lower = place_of is.lower.to;
        apart = λ e.
            let both = sym upper.1 ∙ ap (slice_get (targets_of (entries fields))) e ∙ lower.1 in
            let same : is.upper ≡ is.lower = cc in
            folder_differs (path_of is.upper.to) (path_of is.lower.to) is.folder (ap (λ (t : Target). path_of t.to) same);
        is_upper = place_there upper.0 is.upper upper.1;
        is_lower = place_there lower.0 is.lower lower.1;
        one_sort = is.one_sort;
        within = inr is.folder;
        at = is.at;
      }

  from_folder : (path : List ℕ) → IsFolderTwice fields path → IsTwofoldPath (places_of (targets_of (entries fields)) (map source (named_folders fields))) path
  from_folder path is =
      let n = length (map (λ (t : Target). place_of t.to) (targets_of (entries fields))) in
      record {
        first = n + is.second;
        second = n + is.first;
        upper = folder_place (source is.other);
        lower = folder_place (source is.folder);
        apart = λ e. is.apart (let sum : n + is.second ≡ n + is.first = e in omega arith);
        is_upper = folder_there is.second is.other is.is_other;
        is_lower = folder_there is.first is.folder is.is;
        one_sort = refl;
        within = ⊎_elim (λ same. inl (sym same)) (λ folder. inr folder) is.within;
        at = is.at;
      }

  pub to_places : (path : List ℕ) → IsTwofold fields path → IsTwofoldPath (places_of (targets_of (entries fields)) (map source (named_folders fields))) path
  to_places path (inl twice) = from_twice path twice
  to_places path (inr (inl below)) = from_below path below
  to_places path (inr (inr folder)) = from_folder path folder

  -- ---- and back

  record IsFile (k : ℕ) (place : Place) : Type 0 where
    target : Target
    there : slice_get (targets_of (entries fields)) k ≡ Some target
    is : place_of target.to ≡ place

  record IsFolder (k : ℕ) (place : Place) : Type 0 where
    at : ℕ
    named : List ℕ
    place_is : k ≡ length (map (λ (t : Target). place_of t.to) (targets_of (entries fields))) + at
    there : slice_get (named_folders fields) at ≡ Some named
    is : folder_place (source named) ≡ place

  is_which : (k : ℕ) (place : Place) → slice_get (places_of (targets_of (entries fields)) (map source (named_folders fields))) k ≡ Some place → IsFile k place ⊎ IsFolder k place
  is_which k place is =
      ⊎_elim (λ front. let file = made_from (λ (t : Target). place_of t.to) (targets_of (entries fields)) k place front in inl (record { target = file.0; there = file.1; is = file.2 }))
      (λ (back : IsBehind (map (λ (t : Target). place_of t.to) (targets_of (entries fields))) (map folder_place (map source (named_folders fields))) k place).
      let folder = made_from folder_place (map source (named_folders fields)) back.at place back.there in
      let named = made_from source (named_folders fields) back.at folder.0 folder.1 in
      inr (record { at = back.at; named = named.0; place_is = back.place; there = named.1; is = ap folder_place named.2 ∙ folder.2 }))
      (which (map (λ (t : Target). place_of t.to) (targets_of (entries fields))) (map folder_place (map source (named_folders fields))) k place is)

  module _ (path : List ℕ) (is : IsTwofoldPath (places_of (targets_of (entries fields)) (map source (named_folders fields))) path) where
    two_files_by : (upper : IsFile is.first is.upper) (lower : IsFile is.second is.lower) → (is.upper.path ≡ is.lower.path) ⊎ IsFolderOf is.upper.path is.lower.path
        → (is.first ≡ is.second) ⊎ ((is.first < is.second) ⊎ (is.second < is.first)) → IsTwofold fields path
    two_files_by upper lower (inl paths) order =
        let sorts = ap (λ (p : Place). p.sort) upper.is ∙ is.one_sort ∙ sym (ap (λ (p : Place). p.sort) lower.is) in
        let texts = ap (λ (p : Place). p.path) upper.is ∙ paths ∙ sym (ap (λ (p : Place). p.path) lower.is) in
        let same = dests_equal upper.target.to lower.target.to sorts texts in
        let above = entry_behind (entries fields) all_mean is.first upper.target upper.there in
        let below = entry_behind (entries fields) all_mean is.second lower.target lower.there in
        let at_lower = is.at ∙ sym (ap (λ (p : Place). p.path) lower.is) in
        ⊎_elim (λ e. absurd (is.apart e)) (⊎_elim
        (λ less. inl (record {
          first = is.first;
          second = is.second;
          entry = above.entry;
          other = below.entry;
          target = upper.target;
          again = lower.target;
          apart = less;
          is = above.is;
          is_other = below.is;
          means = above.means;
          means_too = below.means;
          same = same;
          at = at_lower ∙ sym texts;
        }))
        (λ more. inl (record {
          first = is.second;
          second = is.first;
          entry = below.entry;
          other = above.entry;
          target = lower.target;
          again = upper.target;
          apart = more;
          is = below.is;
          is_other = above.is;
          means = below.means;
          means_too = above.means;
          same = sym same;
          at = at_lower;
        }))) order
    two_files_by upper lower (inr folder) order = inr (inl (record {
      upper = upper.target;
      lower = lower.target;
      is_upper = is_target is.first upper.target upper.there;
      is_lower = is_target is.second lower.target lower.there;
      one_sort = ap (λ (p : Place). p.sort) upper.is ∙ is.one_sort ∙ sym (ap (λ (p : Place). p.sort) lower.is);
      folder = folder_along is.upper.path is.lower.path (path_of upper.target.to) (path_of lower.target.to) (sym (ap (λ (p : Place). p.path) upper.is)) (sym (ap (λ (p : Place). p.path) lower.is)) folder;
      at = is.at ∙ sym (ap (λ (p : Place). p.path) lower.is);
    }))

    two_folders : (upper : IsFolder is.first is.upper) (lower : IsFolder is.second is.lower) → IsTwofold fields path
    two_folders upper lower = inr (inr (record {
      first = lower.at;
      second = upper.at;
      folder = lower.named;
      other = upper.named;
      apart = λ e. is.apart (upper.place_is ∙ ap (λ (n : ℕ). length (map (λ (t : Target). place_of t.to) (targets_of (entries fields))) + n) (sym e) ∙ sym lower.place_is);
      is = lower.there;
      is_other = upper.there;
      within = ⊎_elim (λ paths. inl (ap (λ (p : Place). p.path) lower.is ∙ sym paths ∙ sym (ap (λ (p : Place). p.path) upper.is)))
          (λ folder. inr (folder_along is.upper.path is.lower.path (source upper.named) (source lower.named) (sym (ap (λ (p : Place). p.path) upper.is)) (sym (ap (λ (p : Place). p.path) lower.is)) folder)) is.within;
      at = is.at ∙ sym (ap (λ (p : Place). p.path) lower.is);
    }))

    -- a target is never of the sort of folders
    other_sorts : (target : Target) → sort_of target.to ≡ 4 → IsTwofold fields path
    other_sorts target e = let below = sort_below target.to in absurd (omega arith)

    from_places_by : IsFile is.first is.upper ⊎ IsFolder is.first is.upper → IsFile is.second is.lower ⊎ IsFolder is.second is.lower → IsTwofold fields path
    from_places_by (inl upper) (inl lower) = two_files_by upper lower is.within (cases_order is.first is.second)
    from_places_by (inr upper) (inr lower) = two_folders upper lower
    from_places_by (inl upper) (inr lower) =
        other_sorts upper.target (ap (λ (p : Place). p.sort) upper.is ∙ is.one_sort ∙ sym (ap (λ (p : Place). p.sort) lower.is))
    from_places_by (inr upper) (inl lower) =
        other_sorts lower.target (ap (λ (p : Place). p.sort) lower.is ∙ sym is.one_sort ∙ sym (ap (λ (p : Place). p.sort) upper.is))

    pub from_places : IsTwofold fields path
    from_places = from_places_by (is_which is.first is.upper is.is_upper) (is_which is.second is.lower is.is_lower)

  pub least_from_places : (path : List ℕ) → IsLeastTwofoldPath (places_of (targets_of (entries fields)) (map source (named_folders fields))) path → IsLeastTwofold fields path
  least_from_places path least = record {
    is = from_places path least.is;
    least = λ other twofold. least.least other (to_places other twofold);
  }

  -- two targets of one place, and two equal folders, are twofold
  pub two_targets_met : (x y : Target) → StandApart (targets_of (entries fields)) x y → x.to ≡ y.to → IsTwofoldPath (places_of (targets_of (entries fields)) (map source (named_folders fields))) (path_of y.to)
  two_targets_met x y two same = record {
    first = two.first;
    second = two.second;
    upper = place_of x.to;
    lower = place_of y.to;
    apart = two.apart;
    is_upper = place_there two.first x two.is_first;
    is_lower = place_there two.second y two.is_second;
    one_sort = ap sort_of same;
    within = inl (ap path_of same);
    at = refl;
  }

  pub two_folders_met : (x y : List ℕ) → StandApart (map source (named_folders fields)) x y → x ≡ y → IsTwofoldPath (places_of (targets_of (entries fields)) (map source (named_folders fields))) y
  two_folders_met x y two same =
      let n = length (map (λ (t : Target). place_of t.to) (targets_of (entries fields))) in
      record {
        first = n + two.first;
        second = n + two.second;
        upper = folder_place x;
        lower = folder_place y;
        apart = λ e. two.apart (let sum : n + two.first ≡ n + two.second = e in omega arith);
        is_upper = back_there (map (λ (t : Target). place_of t.to) (targets_of (entries fields))) (map folder_place (map source (named_folders fields))) two.first (folder_place x) (made_there folder_place (map source (named_folders fields)) two.first x two.is_first);
        is_lower = back_there (map (λ (t : Target). place_of t.to) (targets_of (entries fields))) (map folder_place (map source (named_folders fields))) two.second (folder_place y) (made_there folder_place (map source (named_folders fields)) two.second y two.is_second);
        one_sort = refl;
        within = inl same;
        at = refl;
      }
