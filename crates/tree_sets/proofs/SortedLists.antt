-- Lists of which each element is below all behind it.
use Rattle.std.proofs.Common.{◌≡◌, ◌≢◌, List, [], ◌∷◌, map, refl, sym, ap, subst, ◌∙◌, true, false, Bool, cond, ⊎_elim, Ordering}
use Rattle.std.proofs.lemmas.Cmp.{tied_itself}
use Rattle.std.specs.Prelude.{filter}
use Rattle.std.specs.Cmp.{IsTotalOrder}
use Rattle.std.specs.List.{AllByRecursion, Contains}
use Rattle.std.specs.List.Sorted.{IsStrictlySortedBy}
use Rattle.std.specs.declared.cmp.Ordering.TheVariants.{Less}
use Rattle.tree_claims.proofs.Members.{cons_cases, cons_here, cons_behind, filter_from, map_contains, map_from, nil_none}
use Rattle.tree_sets.proofs.Rows.{all_at, all_from, Pairwise}

module _ {K : Type 0} (cmp : K → K → Ordering) (total : IsTotalOrder cmp) where
  -- no element is below itself
  pub not_itself : (x : K) → cmp x x ≢ Less
  not_itself x below = let clash = sym below ∙ tied_itself total x in cc clash

  -- no two elements are below each other
  pub not_both : (x y : K) → cmp x y ≡ Less → cmp y x ≢ Less
  not_both x y below above = not_itself x (total.trans x y x below above)

  -- lists in order with the same elements are equal
  pub same_lists : (xs ys : List K) → IsStrictlySortedBy cmp xs → IsStrictlySortedBy cmp ys
      → ((x : K) → Contains xs x → Contains ys x) → ((x : K) → Contains ys x → Contains xs x) → xs ≡ ys
  unfolding IsStrictlySortedBy
  same_lists [] [] up over there here = refl
  same_lists [] (y ∷ ys) up over there here = absurd (nil_none y (here y (cons_here y ys)))
  same_lists (x ∷ xs) [] up over there here = absurd (nil_none x (there x (cons_here x xs)))
  same_lists (x ∷ xs) (y ∷ ys) up over there here =
      let first : x ≡ y =
      ⊎_elim (λ e. sym e) (λ x_behind. ⊎_elim (λ e. e)
      (λ y_behind. absurd (not_both x y (all_at (λ k. cmp x k ≡ Less) xs y up.0 y_behind) (all_at (λ k. cmp y k ≡ Less) ys x over.0 x_behind)))
      (cons_cases x xs y (here y (cons_here y ys)))) (cons_cases y ys x (there x (cons_here x xs))) in
      let rest = same_lists xs ys up.1 over.1
      (λ k among. ⊎_elim (λ e. absurd (not_itself x (subst (λ z. cmp x z ≡ Less) (sym e ∙ sym first) (all_at (λ z. cmp x z ≡ Less) xs k up.0 among))))
      (λ more. more) (cons_cases y ys k (there k (cons_behind x xs k among))))
      (λ k among. ⊎_elim (λ e. absurd (not_itself y (subst (λ z. cmp y z ≡ Less) (sym e ∙ first) (all_at (λ z. cmp y z ≡ Less) ys k over.0 among))))
      (λ more. more) (cons_cases x xs k (here k (cons_behind y ys k among)))) in
      λ i. first i ∷ rest i

  module _ {X : Type 0} (key : X → K) where
    -- all behind an element are above it
    pub below_later : (x : X) (xs : List X) → IsStrictlySortedBy cmp (map key (x ∷ xs)) → (y : X) → Contains xs y → cmp (key x) (key y) ≡ Less
    unfolding IsStrictlySortedBy
    below_later x xs up y among = all_at (λ k. cmp (key x) k ≡ Less) (map key xs) (key y) up.0 (map_contains key xs y among)

    pub later_sorted : (x : X) (xs : List X) → IsStrictlySortedBy cmp (map key (x ∷ xs)) → IsStrictlySortedBy cmp (map key xs)
    unfolding IsStrictlySortedBy
    later_sorted x xs up = up.1

    -- elements with one key are one element
    pub one_of_key : (xs : List X) → IsStrictlySortedBy cmp (map key xs) → (x y : X) → Contains xs x → Contains xs y → key x ≡ key y → x ≡ y
    one_of_key [] up x y here there same = absurd (nil_none x here)
    one_of_key (z ∷ xs) up x y here there same =
        ⊎_elim (λ e. ⊎_elim (λ f. sym e ∙ f)
        (λ behind. absurd (not_itself (key y) (subst (λ k. cmp k (key y) ≡ Less) (ap key e ∙ same) (below_later z xs up y behind))))
        (cons_cases z xs y there))
        (λ behind. ⊎_elim (λ f. absurd (not_itself (key x) (subst (λ k. cmp k (key x) ≡ Less) (ap key f ∙ sym same) (below_later z xs up x behind))))
        (λ more. one_of_key xs (later_sorted z xs up) x y behind more same) (cons_cases z xs y there)) (cons_cases z xs x here)

    -- what holds of two elements whose keys differ holds of each and all behind it
    pub sorted_pairs : (R : X → X → Type 0) (xs : List X) → IsStrictlySortedBy cmp (map key xs)
        → ((x y : X) → Contains xs x → Contains xs y → key x ≢ key y → R x y) → Pairwise R xs
    sorted_pairs R [] up each = tt
    sorted_pairs R (x ∷ xs) up each = (
      all_from (R x) xs (λ y among. each x y (cons_here x xs) (cons_behind x xs y among)
          (λ same. not_itself (key y) (subst (λ k. cmp k (key y) ≡ Less) same (below_later x xs up y among)))),
      sorted_pairs R xs (later_sorted x xs up) (λ y z here there. each y z (cons_behind x xs y here) (cons_behind x xs z there)),
    )

    -- some of the elements, in their order
    pub filter_sorted : (p : X → Bool) (xs : List X) → IsStrictlySortedBy cmp (map key xs) → IsStrictlySortedBy cmp (map key (filter p xs))
    unfolding IsStrictlySortedBy
    filter_sorted p [] up = tt
    filter_sorted p (x ∷ xs) up =
        let rest = filter_sorted p xs up.1 in
        let above : AllByRecursion (λ k. cmp (key x) k ≡ Less) (map key (filter p xs)) =
        all_from (λ k. cmp (key x) k ≡ Less) (map key (filter p xs)) (λ k among.
        let found = map_from key (filter p xs) k among in
        subst (λ z. cmp (key x) z ≡ Less) (sym found.2) (all_at (λ z. cmp (key x) z ≡ Less) (map key xs) (key found.0) up.0
        (map_contains key xs found.0 (filter_from p xs found.0 found.1).0))) in
        elim (p x) as (λ b. IsStrictlySortedBy cmp (map key (cond b (x ∷ filter p xs) (filter p xs)))) [
          | true ↦ (above, rest)
          | false ↦ rest
        ]
