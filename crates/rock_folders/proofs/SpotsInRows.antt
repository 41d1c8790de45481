-- Where the elements of a list stand.
use Rattle.std.proofs.Common.{◌≡◌, ◌≢◌, ◌⊎◌, inl, inr, ⊎_elim, ◌+◌, ℕ, zero, suc, List, [], ◌∷◌, ◌++◌, length, map, refl, sym, ap, ◌∙◌, subst, Some, Bool, true, not, arith, Ordering}
use Rattle.std.specs.Prelude.{slice_get, Contains, filter}
use Rattle.std.specs.Cmp.{IsTotalOrder}
use Rattle.std.specs.List.{AllByRecursion}
use Rattle.std.specs.List.Sorted.{IsStrictlySortedBy}
use Rattle.std.specs.declared.cmp.Ordering.TheVariants.{Less}
use Rattle.std.proofs.lemmas.Option.{get_or_from_slice_get, slice_get-get_or, slice_get_within}
use Rattle.std.proofs.lemmas.List.Elements.{All-contains, All-contains_itself, All-filter, Contains-append_cases, filter_passes}
use Rattle.std.proofs.lemmas.List.Sorted.{Contains-permutation, IsPermutation-filter_both}
use Rattle.tree_sets.proofs.SortedLists.{not_itself}

pub contains_at : {X : Type 0} (xs : List X) (k : ℕ) (x : X) → slice_get xs k ≡ Some x → Contains xs x
contains_at xs k x is = (k, slice_get_within xs k x is, get_or_from_slice_get xs k x x is)

pub at_contains : {X : Type 0} (xs : List X) (x : X) → Contains xs x → (k : ℕ) × (slice_get xs k ≡ Some x)
at_contains xs x has = (has.0, slice_get-get_or xs has.0 x has.1 ∙ ap Some has.2)

pub front_there : {X : Type 0} (xs ys : List X) (k : ℕ) (x : X) → slice_get xs k ≡ Some x → slice_get (xs ++ ys) k ≡ Some x
front_there [] ys k x is = absurd cc
front_there (first ∷ xs) ys zero x is = is
front_there (first ∷ xs) ys (suc k) x is = front_there xs ys k x is

pub back_there : {X : Type 0} (xs ys : List X) (k : ℕ) (x : X) → slice_get ys k ≡ Some x → slice_get (xs ++ ys) (length xs + k) ≡ Some x
back_there {X} [] ys k x is = let e : 0 + k ≡ k = omega arith in subst (λ (n : ℕ). slice_get ys n ≡ Some x) (sym e) is
back_there {X} (first ∷ xs) ys k x is =
    let e : suc (length xs + k) ≡ suc (length xs) + k = omega arith in
    subst (λ (n : ℕ). slice_get (first ∷ (xs ++ ys)) n ≡ Some x) e (back_there xs ys k x is)

-- the element stands in the second of two lists
pub record IsBehind {X : Type 0} (xs ys : List X) (k : ℕ) (x : X) : Type 0 where
  pub at : ℕ
  pub place : k ≡ length xs + at
  pub there : slice_get ys at ≡ Some x

pub which : {X : Type 0} (xs ys : List X) (k : ℕ) (x : X) → slice_get (xs ++ ys) k ≡ Some x → (slice_get xs k ≡ Some x) ⊎ IsBehind xs ys k x
which [] ys k x is = inr (record { at = k; place = omega arith; there = is })
which (first ∷ xs) ys zero x is = inl is
which (first ∷ xs) ys (suc k) x is =
    ⊎_elim (λ front. inl front) (λ (back : IsBehind xs ys k x). inr (record { at = back.at; place = let e = back.place in omega arith; there = back.there })) (which xs ys k x is)

pub mapped_there : {X Y : Type 0} (f : X → Y) (xs : List X) (k : ℕ) (x : X) → slice_get xs k ≡ Some x → slice_get (map f xs) k ≡ Some (f x)
mapped_there f [] k x is = absurd cc
mapped_there f (first ∷ xs) zero x is = let e : first ≡ x = cc in ap (λ y. Some (f y)) e
mapped_there f (first ∷ xs) (suc k) x is = mapped_there f xs k x is

pub mapped_from : {X Y : Type 0} (f : X → Y) (xs : List X) (k : ℕ) (y : Y) → slice_get (map f xs) k ≡ Some y → (x : X) × (slice_get xs k ≡ Some x) × (f x ≡ y)
mapped_from f [] k y is = absurd cc
mapped_from f (first ∷ xs) zero y is = let e : f first ≡ y = cc in (first, refl, e)
mapped_from f (first ∷ xs) (suc k) y is = mapped_from f xs k y is

-- ---- lists in order, each element once

module _ {K : Type 0} (cmp : K → K → Ordering) (total : IsTotalOrder cmp) where
  below_all : (k : K) (ks : List K) → AllByRecursion (λ other. cmp k other ≡ Less) ks → (i : ℕ) → slice_get ks i ≢ Some k
  below_all k [] all i is = absurd cc
  below_all k (first ∷ ks) all zero is = let e : first ≡ k = cc in not_itself cmp total k (subst (λ other. cmp k other ≡ Less) e all.0)
  below_all k (first ∷ ks) all (suc i) is = below_all k ks all.1 i is

  -- an element stands at one place
  pub one_place : (ks : List K) → IsStrictlySortedBy cmp ks → (i j : ℕ) (k : K) → slice_get ks i ≡ Some k → slice_get ks j ≡ Some k → i ≡ j
  unfolding IsStrictlySortedBy
  one_place [] up i j k is too = absurd cc
  one_place (first ∷ ks) up zero zero k is too = refl
  one_place (first ∷ ks) up zero (suc j) k is too = let e : first ≡ k = cc in absurd (below_all first ks up.0 j (too ∙ ap Some (sym e)))
  one_place (first ∷ ks) up (suc i) zero k is too = let e : first ≡ k = cc in absurd (below_all first ks up.0 i (is ∙ ap Some (sym e)))
  one_place (first ∷ ks) up (suc i) (suc j) k is too = ap (λ (n : ℕ). suc n) (one_place ks up.1 i j k is too)

-- ---- what passes a test

pub filter_from : {X : Type 0} (test : X → Bool) (xs : List X) (x : X) → Contains (filter test xs) x → Contains xs x × (test x ≡ true)
filter_from test xs x has = (
  All-contains (Contains xs) (filter test xs) x (All-filter test (Contains xs) xs (All-contains_itself xs)) has,
  All-contains (λ y. test y ≡ true) (filter test xs) x (filter_passes test xs) has,
)

pub filter_contains : {X : Type 0} (test : X → Bool) (xs : List X) (x : X) → Contains xs x → test x ≡ true → Contains (filter test xs) x
filter_contains {X} test xs x has passes =
    let fails : X → Bool = λ (y : X). not (test y) in
    let moved = Contains-permutation xs (filter test xs ++ filter fails xs) x (IsPermutation-filter_both test fails (λ y. refl) xs) has in
    ⊎_elim (λ here. here) (λ there. let other : not (test x) ≡ true = (filter_from fails xs x there).1 in let clash = sym other ∙ ap not passes in absurd cc)
    (Contains-append_cases (filter test xs) (filter fails xs) x moved)
