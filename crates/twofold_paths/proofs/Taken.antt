-- Taken places of places in order.
use Rattle.std.proofs.Common.{◌≡◌, ◌≢◌, ◌⊎◌, ◌↔◌, inl, inr, ⊎_elim, ℕ, ◌+◌, ◌-◌, ◌<◌, ◌≤◌, List, ◌∷◌, ◌++◌, length, get_or, take, drop, refl, sym, ap, subst, ◌∙◌, Bool, false, arith, Option, Some, None, IsTrue, length-append, take-append-drop, below_more}
use Rattle.std.specs.Prelude.{MatchOption, Contains, Result, Ok, Err}
use Rattle.std.specs.Result.{is_ok}
use Rattle.std.specs.List.Sorted.{IsBinarySearchResult, IsPartitionPoint, IsPermutation, IsSearchInRange, IsSorted}
use Rattle.std.specs.Ordering.{is_lt}
use Rattle.std.specs.declared.cmp.Ordering.TheVariants.{Less, Equal, Greater}
use Rattle.std.proofs.lemmas.Bool.{cases_lt, cases_order}
use Rattle.std.proofs.lemmas.List.{drop_more, get_or_at, get_or_default, take_at}
use Rattle.std.proofs.lemmas.List.Sorted.{IsPermutation-sym, searchable_from_sorted, sorted_far}
use Rattle.std.proofs.lemmas.Option.{get_or_from_slice_get, slice_get-get_or, slice_get_within}
use Rattle.rocks_text.specs.Files.{path_cmp}
use Rattle.rocks_text.specs.Paths.{IsFolderOf}
use Rattle.std.proofs.lemmas.Cmp.{nat_list_cmp_total, tied_itself}
use Rattle.twofold_paths.specs.Places.{IsTwofoldPath, IsLeastTwofoldPath}
use Rattle.twofold_paths.specs.Search.{place_cmp, IsAgain, IsBelowOne, IsTaken, GoesFirst, IsLeastTaken}
use Rattle.twofold_paths.specs.declared.place.Place.{Place}
use Rattle.twofold_paths.proofs.Moved.{moved_apart}
use Rattle.twofold_paths.proofs.PlaceOrder.{place_total, place_order, equal_places, folder_differs, tied, lt_le, not_less}

-- ---- twofold paths of places in another order

pub moved_path : (xs ys : List Place) (path : List ℕ) → IsPermutation xs ys → IsTwofoldPath xs path → IsTwofoldPath ys path
moved_path xs ys path moved is =
    let two = moved_apart xs ys is.upper is.lower moved (record { first = is.first; second = is.second; apart = is.apart; is_first = is.is_upper; is_second = is.is_lower }) in
    record {
      first = two.first;
      second = two.second;
      upper = is.upper;
      lower = is.lower;
      apart = two.apart;
      is_upper = two.is_first;
      is_lower = two.is_second;
      one_sort = is.one_sort;
      within = is.within;
      at = is.at;
    }

-- ---- a taken place has a twofold path

module _ (places : List Place) (at : ℕ) (d : Place) (within : at < length places) where
  again_is : IsAgain places at → IsTwofoldPath places (get_or places at d).path
  again_is again = record {
    first = at - 1;
    second = at;
    upper = get_or places (at - 1) d;
    lower = get_or places at d;
    apart = let more = again.0 in λ e. absurd (omega arith);
    is_upper = slice_get-get_or places (at - 1) d (omega arith);
    is_lower = slice_get-get_or places at d within;
    one_sort = ap (λ (p : Place). p.sort) (again.1 d);
    within = inl (ap (λ (p : Place). p.path) (again.1 d));
    at = refl;
  }

  below_is : ((e : Place) → IsBelowOne places (get_or places at e)) → IsTwofoldPath places (get_or places at d).path
  below_is below =
      let found = below d in
      let upper = slice_get-get_or places found.0 found.1 found.2 ∙ ap Some found.3 in
      record {
        first = found.0;
        second = at;
        upper = found.1;
        lower = get_or places at d;
        apart = λ e.
            let same = sym found.3 ∙ ap (λ (n : ℕ). get_or places n found.1) e ∙ get_or_default places at found.1 d within in
            folder_differs found.1.path (get_or places at d).path found.4.1 (ap (λ (p : Place). p.path) same);
        is_upper = upper;
        is_lower = slice_get-get_or places at d within;
        one_sort = found.4.0;
        within = inr found.4.1;
        at = refl;
      }

  pub taken_is : IsTaken places at → IsTwofoldPath places (get_or places at d).path
  taken_is (inl again) = again_is again
  taken_is (inr below) = below_is below

-- ---- and a twofold path is that of a taken place

-- equal ones stand side by side
side_by_side : (places : List Place) (i j : ℕ) (d : Place) → IsSorted place_cmp places → i < j → j < length places
    → get_or places i d ≡ get_or places j d → (e : Place) → get_or places (j - 1) e ≡ get_or places j e
side_by_side places i j d up less within same e =
    let low = sorted_far (λ x y. is_lt (place_cmp x y)) place_order places up i (j - 1) e (omega arith) (omega arith) in
    let high = sorted_far (λ x y. is_lt (place_cmp x y)) place_order places up (j - 1) j e (omega arith) within in
    let there = get_or_default places i e d (omega arith) ∙ same ∙ get_or_default places j d e within in
    let lower = subst (λ (p : Place). is_lt (place_cmp (get_or places (j - 1) e) p) ≡ false) there low in
    equal_places (get_or places (j - 1) e) (get_or places j e) (tied place_total (get_or places (j - 1) e) (get_or places j e) lower high)

pub record IsTakenAt (places : List Place) (path : List ℕ) : Type 0 where
  pub at : ℕ
  pub within : at < length places
  pub taken : IsTaken places at
  pub has : (d : Place) → (get_or places at d).path ≡ path

module _ (places : List Place) (path : List ℕ) (up : IsSorted place_cmp places) (is : IsTwofoldPath places path) where
  upper_in : is.first < length places
  upper_in = slice_get_within places is.first is.upper is.is_upper

  lower_in : is.second < length places
  lower_in = slice_get_within places is.second is.lower is.is_lower

  upper_at : (d : Place) → get_or places is.first d ≡ is.upper
  upper_at d = get_or_from_slice_get places is.first is.upper d is.is_upper

  lower_at : (d : Place) → get_or places is.second d ≡ is.lower
  lower_at d = get_or_from_slice_get places is.second is.lower d is.is_lower

  by_folder : IsFolderOf is.upper.path is.lower.path → IsTakenAt places path
  by_folder folder = record {
    at = is.second;
    within = lower_in;
    taken = inr (λ d. subst (λ (p : Place). IsBelowOne places p) (sym (lower_at d)) (is.first, is.upper, upper_in, upper_at is.upper, (is.one_sort, folder)));
    has = λ d. ap (λ (p : Place). p.path) (lower_at d) ∙ sym is.at;
  }

  by_order : is.upper ≡ is.lower → (is.first ≡ is.second) ⊎ ((is.first < is.second) ⊎ (is.second < is.first)) → IsTakenAt places path
  by_order same (inl e) = absurd (is.apart e)
  by_order same (inr (inl less)) = record {
    at = is.second;
    within = lower_in;
    taken = inl (omega arith, side_by_side places is.first is.second is.lower up less lower_in (upper_at is.lower ∙ same ∙ sym (lower_at is.lower)));
    has = λ d. ap (λ (p : Place). p.path) (lower_at d) ∙ sym is.at;
  }
  by_order same (inr (inr more)) = record {
    at = is.first;
    within = upper_in;
    taken = inl (omega arith, side_by_side places is.second is.first is.lower up more upper_in (lower_at is.lower ∙ sym same ∙ sym (upper_at is.lower)));
    has = λ d. ap (λ (p : Place). p.path) (upper_at d ∙ same) ∙ sym is.at;
  }

  pub is_taken_at : IsTakenAt places path
  is_taken_at = ⊎_elim (λ (same : is.upper.path ≡ is.lower.path). by_order (λ i. record { sort = is.one_sort i; path = same i }) (cases_order is.first is.second)) by_folder is.within

-- ---- the least one

pub told : (places ordered : List Place) (found : Option (List ℕ)) → IsPermutation places ordered → IsSorted place_cmp ordered → IsLeastTaken ordered (length ordered) found
    → MatchOption found ((path : List ℕ) → ¬ IsTwofoldPath places path) (IsLeastTwofoldPath places)
told places ordered None moved up none = λ path is.
    let taken = is_taken_at ordered path up (moved_path places ordered path moved is) in
    none taken.at taken.within taken.taken
told places ordered (Some path) moved up least = record {
  is =
      let there = taken_is ordered least.0.0 (record { sort = 0; path = path }) least.0.1 least.0.2 in
      moved_path ordered places path (IsPermutation-sym places ordered moved) (subst (IsTwofoldPath ordered) (least.0.3 (record { sort = 0; path = path })) there);
  least = λ other is.
      let taken = is_taken_at ordered other up (moved_path places ordered other moved is) in
      let d : Place = record { sort = 0; path = path } in
      subst (λ (p : List ℕ). path_cmp path p ≢ Greater) (taken.has d) (least.1 taken.at d taken.within taken.taken);
}

-- ---- one place more

-- what holds of each place below a bound, and of the bound, holds below the next
next_below : (P : ℕ → Type 0) (i : ℕ) → ((k : ℕ) → k < i → P k) → P i → (k : ℕ) → k < i + 1 → P k
next_below P i below here = below_more P i below here

module _ (places : List Place) (at : ℕ) (place : Place) (within : at < length places) (is : place ≡ get_or places at place) where
  path_there : (d : Place) → (get_or places at d).path ≡ place.path
  path_there d = ap (λ (p : Place). p.path) (get_or_default places at d place within ∙ sym is)

  itself : path_cmp place.path place.path ≢ Greater
  itself e = let same = sym (tied_itself nat_list_cmp_total place.path) ∙ e in cc same

  here_least : (d : Place) → path_cmp place.path (get_or places at d).path ≢ Greater
  here_least d = subst (λ (p : List ℕ). path_cmp place.path p ≢ Greater) (sym (path_there d)) itself

  pub next_least : (least : Option (List ℕ)) → IsLeastTaken places at least → IsTaken places at → GoesFirst place.path least → IsLeastTaken places (at + 1) (Some place.path)
  next_least None none taken goes = (
    (at, omega arith, taken, path_there),
    λ k d below has. next_below (λ k. IsTaken places k → path_cmp place.path (get_or places k d).path ≢ Greater) at
        (λ k less has. absurd (none k less has)) (λ has. here_least d) k below has,
  )
  next_least (Some least) so_far taken goes = (
    (at, omega arith, taken, path_there),
    λ k d below has. next_below (λ k. IsTaken places k → path_cmp place.path (get_or places k d).path ≢ Greater) at
        (λ k less has greater. let first = lt_le nat_list_cmp_total place.path least (get_or places k d).path goes (so_far.1 k d less has) in let clash = sym first ∙ greater in cc clash)
        (λ has. here_least d) k below has,
  )

  pub same_least : (least : Option (List ℕ)) → IsLeastTaken places at least → (IsTaken places at → GoesFirst place.path least → ⊥) → IsLeastTaken places (at + 1) least
  same_least None none never = next_below (λ k. IsTaken places k → ⊥) at none (λ has. never has tt)
  same_least (Some least) so_far never = (
    (so_far.0.0, let less = so_far.0.1 in omega arith, so_far.0.2, so_far.0.3),
    λ k d below has. next_below (λ k. IsTaken places k → path_cmp least (get_or places k d).path ≢ Greater) at (λ k less. so_far.1 k d less)
        (λ has. subst (λ (p : List ℕ). path_cmp least p ≢ Greater) (sym (path_there d)) (not_less nat_list_cmp_total place.path least (never has))) k below has,
  )

-- ---- the folders of a path

module _ (places : List Place) (place : Place) (text : List ℕ) (same : text ≡ place.path) where
  pub folder_found : (at : ℕ) → at < length text → get_or text at 0 ≡ 47 → Contains places (record { sort = place.sort; path = take at text }) → IsBelowOne places place
  folder_found at inside slash has =
      let split = sym (take-append-drop at text) ∙ ap (λ (l : List ℕ). take at text ++ l) (drop_more text at 0 inside) in
      let whole = split ∙ ap (λ (b : ℕ). take at text ++ b ∷ drop (at + 1) text) slash in
      (has.0, record { sort = place.sort; path = take at text }, has.1, has.2, (refl, (drop (at + 1) text, sym same ∙ whole)))

  pub no_folder : ((k : ℕ) → k < length text → get_or text k 0 ≡ 47 → Contains places (record { sort = place.sort; path = take k text }) → ⊥) → IsBelowOne places place → ⊥
  no_folder none any =
      let upper = any.1 in
      let folder = upper.path in
      let rest = any.4.1.0 in
      let whole = same ∙ any.4.1.1 in
      let sizes = ap (λ (l : List ℕ). length l) whole ∙ length-append folder (47 ∷ rest) in
      let slash = ap (λ (l : List ℕ). get_or l (length folder) 0) whole ∙ get_or_at folder 47 rest 0 (length folder) refl in
      let front = ap (take (length folder)) whole ∙ take_at folder (47 ∷ rest) (length folder) refl in
      let it : upper ≡ record { sort = place.sort; path = take (length folder) text } = λ i. record { sort = any.4.0 i; path = sym front i } in
      none (length folder) (omega arith) slash (subst (λ (p : Place). Contains places p) it (any.0, any.2, any.3))

-- ---- whether a place is there

found_there : (places : List Place) (place : Place) (k : ℕ) → k < length places → place_cmp (get_or places k place) place ≡ Equal → Contains places place
found_there places place k within tie = (k, within, equal_places (get_or places k place) place tie)

-- at a place to insert at, no other has it
not_there : (places : List Place) (place : Place) (at : ℕ) → IsPartitionPoint (λ other. place_cmp other place ≡ Less) (λ other. place_cmp other place ≡ Greater) places at → Contains places place → ⊥
not_there places place at parts (k, within, is) =
    let tie = subst (λ (p : Place). place_cmp p place ≡ Equal) (sym is) (tied_itself place_total place) in
    ⊎_elim (λ (less : k < at). let clash = sym tie ∙ parts.0 k place (omega arith) less in cc clash)
    (λ (more : at ≤ k). let clash = sym tie ∙ parts.1 k place more within in cc clash) (cases_lt k at)

pub place_told : (places : List Place) (place : Place) → IsSorted place_cmp places → (found : Result ℕ ℕ) (answer : Bool) → answer ≡ is_ok found → IsSearchInRange found (length places)
    → IsBinarySearchResult (λ other. place_cmp other place) places found → IsTrue answer ↔ Contains places place
place_told places place up (Ok at) answer tells within tie = (λ _. found_there places place at within (tie place), λ _. tells)
place_told places place up (Err at) answer tells within parts = (
  λ yes'. let clash = sym tells ∙ yes' in absurd cc,
  λ has. absurd (not_there places place at (parts (searchable_from_sorted place_total (λ (p : Place). p) places place up)) has),
)
