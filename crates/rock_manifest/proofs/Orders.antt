-- Lists in which each element is below the next.
use Rattle.std.proofs.Common.{◌≡◌, ℕ, zero, suc, ◌+◌, ◌<◌, List, [], ◌∷◌, length, refl, sym, ap, ◌∙◌, subst, true, false, Bool, map, arith, Ordering, get_or, not, ◌≢◌, IsTrue}
use Rattle.std.specs.Prelude.{◌↔◌}
use Rattle.std.specs.Cmp.{IsTotalOrder}
use Rattle.std.specs.Cmp.Lexicographic.{nat_list_cmp_total}
use Rattle.std.specs.List.{All, AllAdjacentBelow, AllByRecursion, IsAllAdjacentAnswer, list_all}
use Rattle.std.specs.List.Sorted.{IsStrictlySortedBy}
use Rattle.std.specs.Ordering.{is_eq, is_lt}
use Rattle.std.specs.declared.cmp.Ordering.TheVariants.{Less, Equal, Greater}
use Rattle.std.proofs.lemmas.Bool.{and_from, and_parts, false_from_ne_true, not-true, not_from_false}
use Rattle.std.proofs.lemmas.List.Elements.{All-nil, All-cons, All-head, All-tail}
use Rattle.std.proofs.lemmas.Map.Text.{is_eq-slice_cmp}
use Rattle.std.proofs.lemmas.Slice.Eq.{bytes_eq-Decides}
use Rattle.std.proofs.lemmas.Cmp.{nat_cmp_total, on_total, then_total}
use Rattle.rocks_text.specs.Files.{path_cmp}
use Rattle.rocks_text.specs.Items.{item_cmp, rank_of}

pub less : (o : Ordering) → is_lt o ≡ true → o ≡ Less
less Less h = refl
less Equal h = cc
less Greater h = cc

pub path_total : IsTotalOrder path_cmp
path_total = nat_list_cmp_total

pub item_total : IsTotalOrder item_cmp
item_total = then_total (on_total (λ item. item.kind) (on_total rank_of nat_cmp_total))
    (on_total (λ item. item.path) nat_list_cmp_total)

module _ {K : Type 0} (cmp : K → K → Ordering) (total : IsTotalOrder cmp) where
  -- what is below an element is below all that are above that one
  pub below_later : (key next : K) (keys : List K) → cmp key next ≡ Less
      → AllByRecursion (λ other. cmp next other ≡ Less) keys → AllByRecursion (λ other. cmp key other ≡ Less) keys
  below_later key next [] below all = tt
  below_later key next (other ∷ keys) below all =
      (total.trans key next other below all.0, below_later key next keys below all.1)

  module _ {X : Type 0} (key : X → K) where
    abbrev Rises : X → X → Type 0
    Rises x y = true ≡ is_lt (cmp (key x) (key y))

    behind_first : (x : X) (xs : List X) → AllAdjacentBelow Rises (x ∷ xs) (length (x ∷ xs))
        → AllAdjacentBelow Rises xs (length xs)
    behind_first x xs adjacent k d h =
        let e : suc k + 1 ≡ suc (k + 1) = omega arith in
        let P : ℕ → Type 0 = λ (n : ℕ). Rises (get_or xs k d) (get_or (x ∷ xs) n d) in
        subst P e (adjacent (suc k) d (omega arith))

    from_adjacent : (xs : List X) → AllAdjacentBelow Rises xs (length xs) → IsStrictlySortedBy cmp (map key xs)
    unfolding IsStrictlySortedBy
    from_adjacent [] adjacent = tt
    from_adjacent (x ∷ []) adjacent = (tt, tt)
    from_adjacent (x ∷ y ∷ xs) adjacent =
        let below = less (cmp (key x) (key y)) (sym (adjacent 0 x (omega arith))) in
        let rest = from_adjacent (y ∷ xs) (behind_first x (y ∷ xs) adjacent) in
        ((below, below_later (key x) (key y) (map key xs) below rest.0), rest)

    adjacent_at : (xs : List X) → IsStrictlySortedBy cmp (map key xs) → (k : ℕ) (d : X) → k + 1 < length xs
        → cmp (key (get_or xs k d)) (key (get_or xs (k + 1) d)) ≡ Less
    unfolding IsStrictlySortedBy
    adjacent_at [] sorted k d h = absurd (omega arith)
    adjacent_at (x ∷ []) sorted k d h = absurd (omega arith)
    adjacent_at (x ∷ y ∷ xs) sorted zero d h = sorted.0.0
    adjacent_at (x ∷ y ∷ xs) sorted (suc k) d h =
        let e : suc (k + 1) ≡ suc k + 1 = omega arith in
        let P : ℕ → Type 0 = λ (n : ℕ). cmp (key (get_or (y ∷ xs) k d)) (key (get_or (x ∷ y ∷ xs) n d)) ≡ Less in
        subst P e (adjacent_at (y ∷ xs) sorted.1 k d (omega arith))

    -- what a test of each element and the next tells
    pub tells_order : (xs : List X) (r : Bool) → IsAllAdjacentAnswer (λ x y b. b ≡ is_lt (cmp (key x) (key y))) xs r
        → IsTrue r ↔ IsStrictlySortedBy cmp (map key xs)
    tells_order xs true answer = (λ _. from_adjacent xs answer, λ _. refl)
    tells_order [] false answer = absurd (omega (arith, answer.1))
    tells_order (x ∷ xs) false answer = (
      λ h. absurd (cc h),
      λ sorted. absurd
          (let e = adjacent_at (x ∷ xs) sorted answer.0 x answer.1 in let f = answer.2 x ∙ ap is_lt e in cc f),
    )

-- a test of each path tells whether they all differ
pub tells_apart : {A : Type 0} (path : List ℕ) (files : List (List ℕ × A)) (r : Bool)
    → r ≡ list_all (λ file. not (is_eq (path_cmp file.0 path))) files → IsTrue r ↔ All (λ file. file.0 ≢ path) files
tells_apart path [] r e = (λ _. All-nil (λ file. file.0 ≢ path), λ _. e)
tells_apart path (file ∷ files) r e =
    let rest = tells_apart path files (list_all (λ f. not (is_eq (path_cmp f.0 path))) files) refl in
    let same = bytes_eq-Decides file.0 path in
    let ties = is_eq-slice_cmp file.0 path in (
      λ yes.
          let h = and_parts (not (is_eq (path_cmp file.0 path)))
          (list_all (λ f. not (is_eq (path_cmp f.0 path))) files) (sym e ∙ yes) in
          let other = not-true (is_eq (path_cmp file.0 path)) h.0 in
          All-cons (λ f. f.0 ≢ path) file files (λ is. let hit = ties ∙ same.1 is in cc) (rest.0 h.1),
      λ all.
          let differs = false_from_ne_true (is_eq (path_cmp file.0 path))
          (λ tied. All-head (λ f. f.0 ≢ path) file files all (same.0 (sym ties ∙ tied))) in
          e ∙ and_from (not (is_eq (path_cmp file.0 path))) (list_all (λ f. not (is_eq (path_cmp f.0 path))) files)
          (not_from_false (is_eq (path_cmp file.0 path)) differs)
          (rest.1 (All-tail (λ f. f.0 ≢ path) file files all)),
    )
