-- Lists that rise by a total order, and what putting an item in or taking one out does to them.
use Rattle.std.proofs.Common.{◌≡◌, ◌⊎◌, ◌↔◌, inl, inr, ℕ, zero, suc, ◌+◌, ◌<◌, ◌≤◌, List, [], ◌∷◌, ◌++◌, length, get_or, drop, take, refl, sym, ap, ◌∙◌, subst, arith, Err}
use Rattle.std.specs.Prelude.{Contains}
use Rattle.std.specs.List.{remove}
use Rattle.std.proofs.Common.{◌≢◌}
use Rattle.std.proofs.Common.{set, take-append-drop, insert, Equal, Ok, Err}
use Rattle.std.proofs.lemmas.Cmp.{tied_itself}
use Rattle.std.specs.List.{AllByRecursion}
use Rattle.std.specs.List.Sorted.{IsNonDecreasingBy, IsBinarySearchResult}
use Rattle.std.specs.Cmp.{IsTotalOrder}
use Rattle.std.specs.Ordering.{is_lt, ordering_index, ordering_reverse}
use Rattle.std.specs.declared.cmp.Ordering.{Ordering}
use Rattle.std.specs.declared.cmp.Ordering.TheVariants.{Less, Greater}
use Rattle.std.proofs.lemmas.List.Sorted.{searchable_from_sorted, IsPermutation-middle, IsPermutation-sym, Contains-permutation}
use Rattle.std.proofs.lemmas.List.Elements.{Contains-append_right}
use Rattle.std.proofs.lemmas.List.Elements.{Contains-append_cases}
use Rattle.providers.specs.Lists.{Rises}

-- ---- members

module _ {X : Type 0} where
  pub contains_one : (x y : X) → Contains (x ∷ []) y → y ≡ x
  contains_one x y (zero, below, is) = sym is
  contains_one x y (suc k, below, is) = absurd (omega arith)

  pub contains_first : (x : X) (xs : List X) → Contains (x ∷ xs) x
  contains_first x xs = (0, omega arith, refl)

  pub contains_cases : (x : X) (xs : List X) (y : X) → Contains (x ∷ xs) y → (y ≡ x) ⊎ Contains xs y
  contains_cases x xs y (zero, below, is) = inl (sym is)
  contains_cases x xs y (suc k, below, is) = inr (k, omega arith, is)

  pub contains_later : (x : X) (xs : List X) (y : X) → Contains xs y → Contains (x ∷ xs) y
  contains_later x xs y (k, below, is) = (suc k, omega arith, is)

  -- one that stands in the middle
  pub contains_mid : (f : List X) (x : X) (b : List X) → Contains (f ++ x ∷ b) x
  contains_mid f x b = Contains-append_right f (x ∷ b) x (contains_first x b)

  pub contains_put : (f : List X) (x : X) (b : List X) (y : X) → Contains (f ++ x ∷ b) y → (y ≡ x) ⊎ Contains (f ++ b) y
  contains_put f x b y has = contains_cases x (f ++ b) y (Contains-permutation (f ++ x ∷ b) (x ∷ (f ++ b)) y (IsPermutation-middle f x b) has)

  pub contains_around : (f : List X) (x : X) (b : List X) (y : X) → Contains (f ++ b) y → Contains (f ++ x ∷ b) y
  contains_around f x b y has = Contains-permutation (x ∷ (f ++ b)) (f ++ x ∷ b) y (IsPermutation-sym (f ++ x ∷ b) (x ∷ (f ++ b)) (IsPermutation-middle f x b)) (contains_later x (f ++ b) y has)

  pub contains_nothing : (y : X) → Contains [] y → ⊥
  contains_nothing y (k, below, is) = absurd (omega arith)

  -- what holds of all holds of each
  pub all_contained : (P : X → Type 0) (xs : List X) (y : X) → AllByRecursion P xs → Contains xs y → P y
  all_contained P [] y all has = absurd (contains_nothing y has)
  all_contained P (x ∷ xs) y all (zero, below, is) = subst P is all.0
  all_contained P (x ∷ xs) y all (suc k, below, is) = all_contained P xs y all.1 (k, omega arith, is)

  pub all_put : (P : X → Type 0) (f : List X) (x : X) (b : List X) → AllByRecursion P (f ++ b) → P x → AllByRecursion P (f ++ x ∷ b)
  all_put P [] x b all here = (here, all)
  all_put P (y ∷ f) x b all here = (all.0, all_put P f x b all.1 here)

  pub all_cut : (P : X → Type 0) (f : List X) (x : X) (b : List X) → AllByRecursion P (f ++ x ∷ b) → AllByRecursion P (f ++ b)
  all_cut P [] x b all = all.1
  all_cut P (y ∷ f) x b all = (all.0, all_cut P f x b all.1)

  pub all_mid : (P : X → Type 0) (f : List X) (x : X) (b : List X) → AllByRecursion P (f ++ x ∷ b) → P x
  all_mid P [] x b all = all.0
  all_mid P (y ∷ f) x b all = all_mid P f x b all.1

  -- from places to all of a part
  all_of_take : (P : X → Type 0) (xs : List X) (i : ℕ) → ((k : ℕ) (d : X) → k < i → P (get_or xs k d)) → i ≤ length xs → AllByRecursion P (take i xs)
  all_of_take P xs zero each within = tt
  all_of_take P [] (suc i) each within = absurd (omega arith)
  all_of_take P (x ∷ xs) (suc i) each within = (each 0 x (omega arith), all_of_take P xs i (λ k d below. each (suc k) d (omega arith)) (omega arith))

  all_of_drop : (P : X → Type 0) (xs : List X) (i : ℕ) → ((k : ℕ) (d : X) → i ≤ k → k < length xs → P (get_or xs k d)) → AllByRecursion P (drop i xs)
  all_of_drop P [] zero each = tt
  all_of_drop P [] (suc i) each = tt
  all_of_drop P (x ∷ xs) zero each = (each 0 x (omega arith) (omega arith), all_of_drop P xs zero (λ k d above below. each (suc k) d (omega arith) (omega arith)))
  all_of_drop P (x ∷ xs) (suc i) each = all_of_drop P xs i (λ k d above below. each (suc k) d (omega arith) (omega arith))

  -- a list around a place
  pub around : (xs : List X) (i : ℕ) (d : X) → i < length xs → xs ≡ take i xs ++ get_or xs i d ∷ drop (suc i) xs
  around [] i d within = absurd (omega arith)
  around (x ∷ xs) zero d within = refl
  around (x ∷ xs) (suc i) d within = ap (λ l. x ∷ l) (around xs i d (omega arith))

  pub set_around : (xs : List X) (i : ℕ) (x : X) → i < length xs → set xs i x ≡ take i xs ++ x ∷ drop (suc i) xs
  set_around [] i x within = absurd (omega arith)
  set_around (y ∷ xs) zero x within = refl
  set_around (y ∷ xs) (suc i) x within = ap (λ l. y ∷ l) (set_around xs i x (omega arith))

-- ---- order

module _ {X : Type 0} {R : X → X → Ordering} (o : IsTotalOrder R) where
  abbrev pub Under : List X → X → Type 0
  Under xs q = AllByRecursion (λ x. R x q ≡ Less) xs

  abbrev pub Over : List X → X → Type 0
  Over xs q = AllByRecursion (λ x. R q x ≡ Less) xs

  pub turned : (x y : X) → R x y ≡ Less → R y x ≡ Greater
  turned x y e = o.antisymm y x ∙ ap ordering_reverse e

  pub turned_back : (x y : X) → R x y ≡ Greater → R y x ≡ Less
  turned_back x y e = o.antisymm y x ∙ ap ordering_reverse e

  pub put_rises : (f : List X) (x : X) (b : List X) → Rises R (f ++ b) → Under f x → Over b x → Rises R (f ++ x ∷ b)
  put_rises [] x b up under over = (over, up)
  put_rises (y ∷ f) x b up under over = (all_put (λ z. R y z ≡ Less) f x b up.0 under.0, put_rises f x b up.1 under.1 over)

  pub cut_rises : (f : List X) (x : X) (b : List X) → Rises R (f ++ x ∷ b) → Rises R (f ++ b)
  cut_rises [] x b up = up.1
  cut_rises (y ∷ f) x b up = (all_cut (λ z. R y z ≡ Less) f x b up.0, cut_rises f x b up.1)

  pub under_mid : (f : List X) (x : X) (b : List X) → Rises R (f ++ x ∷ b) → Under f x
  under_mid [] x b up = tt
  under_mid (y ∷ f) x b up = (all_mid (λ z. R y z ≡ Less) f x b up.0, under_mid f x b up.1)

  pub over_mid : (f : List X) (x : X) (b : List X) → Rises R (f ++ x ∷ b) → Over b x
  over_mid [] x b up = up.0
  over_mid (y ∷ f) x b up = over_mid f x b up.1

  all_at : (P : X → Type 0) (xs : List X) (i : ℕ) (d : X) → AllByRecursion P xs → i < length xs → P (get_or xs i d)
  all_at P [] i d all within = absurd (omega arith)
  all_at P (x ∷ xs) zero d all within = all.0
  all_at P (x ∷ xs) (suc i) d all within = all_at P xs i d all.1 (omega arith)

  rises_at : (xs : List X) (i j : ℕ) (d : X) → Rises R xs → i < j → j < length xs → R (get_or xs i d) (get_or xs j d) ≡ Less
  rises_at [] i j d up before within = absurd (omega arith)
  rises_at (x ∷ xs) i zero d up before within = absurd (omega arith)
  rises_at (x ∷ xs) zero (suc j) d up before within = all_at (λ z. R x z ≡ Less) xs j d up.0 (omega arith)
  rises_at (x ∷ xs) (suc i) (suc j) d up before within = rises_at xs i j d up.1 (omega arith) (omega arith)

  searchable : (xs : List X) (q : X) → Rises R xs → IsNonDecreasingBy (λ y. ordering_index (R y q)) xs
  searchable xs q up = searchable_from_sorted o (λ y. y) xs q (λ k d low within. ap is_lt (turned _ _ (rises_at xs k (k + 1) d up (omega arith) within)))

  -- where a search ends beside a gap
  pub gap : (xs : List X) (q : X) (i : ℕ) → Rises R xs → i ≤ length xs → IsBinarySearchResult (λ y. R y q) xs (Err i) → Under (take i xs) q × Over (drop i xs) q
  gap xs q i up within found =
      let parts = found (searchable xs q up) in (
        all_of_take (λ x. R x q ≡ Less) xs i (λ k d below. parts.0 k d (omega arith) below) within,
        all_of_drop (λ x. R q x ≡ Less) xs i (λ k d above below. turned_back _ q (parts.1 k d above below)),
      )

  -- two lists that rise and have the same members are one
  pub one_rising : (xs ys : List X) → Rises R xs → Rises R ys → ((z : X) → Contains xs z ↔ Contains ys z) → xs ≡ ys
  one_rising [] [] up up_too same = refl
  one_rising [] (y ∷ ys) up up_too same = absurd (contains_nothing y ((same y).1 (contains_first y ys)))
  one_rising (x ∷ xs) [] up up_too same = absurd (contains_nothing x ((same x).0 (contains_first x xs)))
  one_rising (x ∷ xs) (y ∷ ys) up up_too same =
      let heads : x ≡ y = first_same (contains_cases y ys x ((same x).0 (contains_first x xs))) (contains_cases x xs y ((same y).1 (contains_first y ys))) in
      let tails : xs ≡ ys = one_rising xs ys up.1 up_too.1 (λ z. (rest_of heads z, rest_back heads z)) in
      λ i. heads i ∷ tails i
    where
      no_loop : (a b : X) → R a b ≡ Less → R b a ≡ Less → ⊥
      no_loop a b e f = let back = turned a b e in cc

      not_itself : (a : X) (l : List X) → AllByRecursion (λ z. R a z ≡ Less) l → Contains l a → ⊥
      not_itself a l all has = let less = all_contained (λ z. R a z ≡ Less) l a all has in no_loop a a less less

      first_same : (x ≡ y) ⊎ Contains ys x → (y ≡ x) ⊎ Contains xs y → x ≡ y
      first_same (inl e) other = e
      first_same (inr has) (inl e) = sym e
      first_same (inr has) (inr has_too) = absurd (no_loop y x (all_contained (λ z. R y z ≡ Less) ys x up_too.0 has) (all_contained (λ z. R x z ≡ Less) xs y up.0 has_too))

      rest_of : x ≡ y → (z : X) → Contains xs z → Contains ys z
      rest_of heads z has = by_cases (contains_cases y ys z ((same z).0 (contains_later x xs z has)))
        where
          by_cases : (z ≡ y) ⊎ Contains ys z → Contains ys z
          by_cases (inl e) = absurd (not_itself x xs up.0 (subst (λ w. Contains xs w) (e ∙ sym heads) has))
          by_cases (inr there) = there

      rest_back : x ≡ y → (z : X) → Contains ys z → Contains xs z
      rest_back heads z has = by_cases (contains_cases x xs z ((same z).1 (contains_later y ys z has)))
        where
          by_cases : (z ≡ x) ⊎ Contains xs z → Contains xs z
          by_cases (inl e) = absurd (not_itself y ys up_too.0 (subst (λ w. Contains ys w) (e ∙ heads) has))
          by_cases (inr there) = there

-- ---- what a search found

module _ {X : Type 0} {R : X → X → Ordering} (o : IsTotalOrder R) where
  cut_at : (xs : List X) (i : ℕ) → Rises R xs → Rises R (take i xs ++ drop i xs)
  cut_at xs i up = subst (Rises R) (sym (take-append-drop i xs)) up

  pub inserted : (xs : List X) (q : X) (i : ℕ) → Rises R xs → i ≤ length xs → IsBinarySearchResult (λ y. R y q) xs (Err i) → Rises R (insert xs i q)
  inserted xs q i up within found =
      let sides = gap o xs q i up within found in
      put_rises o (take i xs) q (drop i xs) (cut_at xs i up) sides.0 sides.1

  pub inserted_has : (xs : List X) (q : X) (i : ℕ) (y : X) → Contains (insert xs i q) y ↔ ((y ≡ q) ⊎ Contains xs y)
  inserted_has xs q i y = (λ has. by (contains_put (take i xs) q (drop i xs) y has), back)
    where
      by : (y ≡ q) ⊎ Contains (take i xs ++ drop i xs) y → (y ≡ q) ⊎ Contains xs y
      by (inl same) = inl same
      by (inr has) = inr (subst (λ l. Contains l y) (take-append-drop i xs) has)

      back : (y ≡ q) ⊎ Contains xs y → Contains (insert xs i q) y
      back (inl same) = subst (λ z. Contains (insert xs i q) z) (sym same) (contains_mid (take i xs) q (drop i xs))
      back (inr has) = contains_around (take i xs) q (drop i xs) y (subst (λ l. Contains l y) (sym (take-append-drop i xs)) has)

  -- where it ends at a gap, the item isn't there
  pub not_at_gap : (xs : List X) (q : X) (i : ℕ) → Rises R xs → i ≤ length xs → IsBinarySearchResult (λ y. R y q) xs (Err i) → Contains xs q → ⊥
  not_at_gap xs q i up within found has =
      let sides = gap o xs q i up within found in
      let itself = tied_itself o q in
      by (Contains-append_cases (take i xs) (drop i xs) q (subst (λ l. Contains l q) (sym (take-append-drop i xs)) has)) sides itself
    where
      by : Contains (take i xs) q ⊎ Contains (drop i xs) q → Under o (take i xs) q × Over o (drop i xs) q → R q q ≡ Equal → ⊥
      by (inl front) sides itself = let less = all_contained (λ x. R x q ≡ Less) (take i xs) q sides.0 front in cc
      by (inr back) sides itself = let less = all_contained (λ x. R q x ≡ Less) (drop i xs) q sides.1 back in cc

  -- where it ends at a place, the item stands there
  pub at_place : ((x y : X) → R x y ≡ Equal → x ≡ y) → (xs : List X) (q : X) (i : ℕ) → i < length xs → IsBinarySearchResult (λ y. R y q) xs (Ok i) → Contains xs q
  at_place ties xs q i within found = (i, within, ties (get_or xs i q) q (found q))

  -- ---- one that is taken out

  module _ (xs : List X) (i : ℕ) (q : X) (up : Rises R xs) (within : i < length xs) (is : get_or xs i q ≡ q) where
    parts : xs ≡ take i xs ++ q ∷ drop (suc i) xs
    parts = around xs i q within ∙ ap (λ x. take i xs ++ x ∷ drop (suc i) xs) is

    in_order : Rises R (take i xs ++ q ∷ drop (suc i) xs)
    in_order = subst (Rises R) parts up

    pub removed_rises : Rises R (remove xs i)
    removed_rises = cut_rises o (take i xs) q (drop (suc i) xs) in_order

    not_left : Contains (remove xs i) q → ⊥
    not_left has = by (Contains-append_cases (take i xs) (drop (suc i) xs) q has) (under_mid o (take i xs) q (drop (suc i) xs) in_order) (over_mid o (take i xs) q (drop (suc i) xs) in_order) (tied_itself o q)
      where
        by : Contains (take i xs) q ⊎ Contains (drop (suc i) xs) q → Under o (take i xs) q → Over o (drop (suc i) xs) q → R q q ≡ Equal → ⊥
        by (inl front) under over itself = let less = all_contained (λ x. R x q ≡ Less) (take i xs) q under front in cc
        by (inr back) under over itself = let less = all_contained (λ x. R q x ≡ Less) (drop (suc i) xs) q over back in cc

    pub removed_has : (y : X) → Contains (remove xs i) y ↔ (Contains xs y × (y ≢ q))
    removed_has y = (
      (λ has. (subst (λ l. Contains l y) (sym parts) (contains_around (take i xs) q (drop (suc i) xs) y has), λ same. not_left (subst (λ z. Contains (remove xs i) z) same has))),
      (λ has. by has.1 (contains_put (take i xs) q (drop (suc i) xs) y (subst (λ l. Contains l y) parts has.0))),
    )
      where
        by : y ≢ q → (y ≡ q) ⊎ Contains (remove xs i) y → Contains (remove xs i) y
        by apart (inl same) = absurd (apart same)
        by apart (inr there) = there
