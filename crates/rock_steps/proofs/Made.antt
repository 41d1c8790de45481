-- Lists that are made of others: which elements they have, and what holds of each two of them.
use Rattle.std.proofs.Common.{◌≡◌, ◌≢◌, ⊎_elim, ℕ, zero, suc, List, [], ◌∷◌, ◌++◌, Option, Some, None, Bool, true, map, refl, sym, ap, subst, arith}
use Rattle.std.specs.Prelude.{Contains}
use Rattle.std.specs.List.{All, AllPairs, cons_option, filter, filter_map, flat_map}
use Rattle.std.specs.List.Sorted.{IsStrictlySortedBy}
use Rattle.std.proofs.lemmas.Cmp.{nat_list_cmp_total}
use Rattle.std.proofs.lemmas.List.{map-id}
use Rattle.std.proofs.lemmas.List.Elements.{All-append, All-cons, All-contains, All-contains_itself, All-filter, All-nil, All-tail, All-weaker, Contains-append_cases, filter_passes}
use Rattle.std.proofs.lemmas.List.Kept.{AllPairs-cons}
use Rattle.rocks_text.specs.Files.{path_cmp}
use Rattle.rocks_outside.specs.Device.{IsAscending}
use Rattle.rocks_outside.proofs.Held.{sorted_from_ascending}
use Rattle.build_plan.proofs.PlanLaws.{all_differ, rises}

head_pairs : {X : Type 0} (R : X → X → Type 0) (x : X) (xs : List X) → AllPairs R (x ∷ xs) → All (R x) xs
head_pairs R x xs h k d within = h zero (suc k) d (omega arith) (omega arith)

tail_pairs : {X : Type 0} (R : X → X → Type 0) (x : X) (xs : List X) → AllPairs R (x ∷ xs) → AllPairs R xs
tail_pairs R x xs h i j d below within = h (suc i) (suc j) d (omega arith) (omega arith)

behind : {X : Type 0} (x : X) (xs : List X) (y : X) → Contains xs y → Contains (x ∷ xs) y
behind x xs y (k, within, is) = (suc k, omega arith, is)

no_pairs : {X : Type 0} (R : X → X → Type 0) → AllPairs R []
no_pairs R i j d below within = absurd (omega arith)

pub pairs_append : {X : Type 0} (R : X → X → Type 0) (xs ys : List X) → AllPairs R xs → AllPairs R ys
    → ((x y : X) → Contains xs x → Contains ys y → R x y) → AllPairs R (xs ++ ys)
pairs_append R [] ys h g apart = g
pairs_append R (x ∷ xs) ys h g apart =
    let later = All-weaker (Contains ys) (R x) (λ y has. apart x y (zero, omega arith, refl) has) ys (All-contains_itself ys) in
    AllPairs-cons R x (xs ++ ys) (All-append (R x) xs ys (head_pairs R x xs h) later)
    (pairs_append R xs ys (tail_pairs R x xs h) g (λ z y has has_too. apart z y (behind x xs z has) has_too))

-- ---- what a function makes of the elements, where it makes something

module _ {X Y : Type 0} (f : X → Option Y) where
  all_option : (Q : Y → Type 0) (o : Option Y) (ys : List Y) → ((y : Y) → o ≡ Some y → Q y) → All Q ys → All Q (cons_option o ys)
  all_option Q None ys one rest = rest
  all_option Q (Some y) ys one rest = All-cons Q y ys (one y refl) rest

  pairs_option : (S : Y → Y → Type 0) (o : Option Y) (ys : List Y) → ((y : Y) → o ≡ Some y → All (S y) ys) → AllPairs S ys → AllPairs S (cons_option o ys)
  pairs_option S None ys one rest = rest
  pairs_option S (Some y) ys one rest = AllPairs-cons S y ys (one y refl) rest

  all_made : (P : X → Type 0) (Q : Y → Type 0) → ((x : X) (y : Y) → f x ≡ Some y → P x → Q y) → (xs : List X) → All P xs → All Q (filter_map f xs)
  all_made P Q gives [] h = All-nil Q
  all_made P Q gives (x ∷ xs) h =
      all_option Q (f x) (filter_map f xs) (λ y made. gives x y made (h zero x (omega arith))) (all_made P Q gives xs (All-tail P x xs h))

  pub pairs_made : (R : X → X → Type 0) (S : Y → Y → Type 0) → ((x z : X) (y w : Y) → f x ≡ Some y → f z ≡ Some w → R x z → S y w)
      → (xs : List X) → AllPairs R xs → AllPairs S (filter_map f xs)
  pairs_made R S gives [] h = no_pairs S
  pairs_made R S gives (x ∷ xs) h =
      pairs_option S (f x) (filter_map f xs)
      (λ y made. all_made (R x) (S y) (λ z w made_too r. gives x z y w made made_too r) xs (head_pairs R x xs h))
      (pairs_made R S gives xs (tail_pairs R x xs h))

  abbrev IsMade : List X → Y → Type 0
  IsMade xs y = (x : X) × Contains xs x × (f x ≡ Some y)

  pub made_of : (xs : List X) (y : Y) → Contains (filter_map f xs) y → (x : X) × Contains xs x × (f x ≡ Some y)
  made_of xs y has =
      All-contains (IsMade xs) (filter_map f xs) y
      (all_made (Contains xs) (IsMade xs) (λ x z made there. (x, there, made)) xs (All-contains_itself xs)) has

pub made_of_map : {X Y Z : Type 0} (h : Y → Option Z) (f : X → Y) (xs : List X) → filter_map h (map f xs) ≡ filter_map (λ x. h (f x)) xs
made_of_map h f [] = refl
made_of_map h f (x ∷ xs) = ap (cons_option (h (f x))) (made_of_map h f xs)

-- ---- the elements that pass a test

pub of_filter : {X : Type 0} (test : X → Bool) (xs : List X) (x : X) → Contains (filter test xs) x → Contains xs x × (test x ≡ true)
of_filter test xs x has = (
  All-contains (Contains xs) (filter test xs) x (All-filter test (Contains xs) xs (All-contains_itself xs)) has,
  All-contains (λ y. test y ≡ true) (filter test xs) x (filter_passes test xs) has,
)

-- ---- the lists that a function makes, one after the other

module _ {Z X : Type 0} (f : Z → List X) where
  pub joined_of : (zs : List Z) (x : X) → Contains (flat_map f zs) x → (z : Z) × Contains zs z × Contains (f z) x
  joined_of [] x (k, within, is) = absurd (omega arith)
  joined_of (z ∷ zs) x has =
      ⊎_elim (λ here. (z, (zero, omega arith, refl), here))
      (λ later. let found = joined_of zs x later in (found.0, behind z zs found.0 found.1, found.2))
      (Contains-append_cases (f z) (flat_map f zs) x has)

  pub pairs_joined : (R : X → X → Type 0) (S : Z → Z → Type 0)
      → ((z w : Z) (x y : X) → S z w → Contains (f z) x → Contains (f w) y → R x y)
      → ((z : Z) → AllPairs R (f z)) → (zs : List Z) → AllPairs S zs → AllPairs R (flat_map f zs)
  pairs_joined R S apart each [] h = no_pairs R
  pairs_joined R S apart each (z ∷ zs) h =
      pairs_append R (f z) (flat_map f zs) (each z) (pairs_joined R S apart each zs (tail_pairs S z zs h))
      (λ x y has has_too.
      let from = joined_of zs y has_too in
      apart z from.0 x y (All-contains (S z) zs from.0 (head_pairs S z zs h) from.1) has from.2)

-- ---- paths in order

pub ascending_differ : (paths : List (List ℕ)) → IsAscending paths → AllPairs (λ path other. path ≢ other) paths
ascending_differ paths up =
    all_differ nat_list_cmp_total (λ (path : List ℕ). path) paths
    (rises nat_list_cmp_total (λ (path : List ℕ). path) paths
    (subst (IsStrictlySortedBy path_cmp) (sym (map-id paths)) (sorted_from_ascending paths up)))
