-- Lists of components, from the front on.
use Rattle.std.proofs.Common.{◌≡◌, ℕ, ◌<◌, List, [], ◌∷◌, length, drop, refl, sym, ap, ◌∙◌, true, false, not, Bool, ◌&&◌, arith}
use Rattle.std.specs.List.{slice_index_or}
use Rattle.std.specs.Ordering.{is_eq, nat_cmp, ordering_then}
use Rattle.rocks_version.specs.Components.{Component, Number}
use Rattle.rocks_version.specs.declared.component.Step.{Step}
use Rattle.rocks_version.specs.Orders.{place_of, step_cmp, step_of}
use Rattle.rocks_constraint.specs.Meets.{are_same, begin_with, is_same}

abbrev pub front : List Component → Component
front cs = slice_index_or cs 0 (Number 0)

-- lists that both have a component
same_first : (cs ds : List Component) → 0 < length cs → 0 < length ds → are_same cs ds ≡ (is_same (front cs) (front ds) && are_same (drop 1 cs) (drop 1 ds))
unfolding are_same
same_first [] ds left right = absurd (omega arith)
same_first (c ∷ cs) [] left right = absurd (omega arith)
same_first (c ∷ cs) (d ∷ ds) left right = refl

-- no list has a component, or one has none
pub same_none : (cs ds : List Component) (other : Bool) → (0 < length cs → ⊥) → (other ≡ true → 0 < length ds) → (0 < length ds → other ≡ true) → not other ≡ are_same cs ds
unfolding are_same
same_none (c ∷ cs) ds other none some all = absurd (none (omega arith))
same_none [] [] true none some all = let h = some refl in absurd (omega arith)
same_none [] [] false none some all = refl
same_none [] (d ∷ ds) true none some all = refl
same_none [] (d ∷ ds) false none some all = let h = all (omega arith) in cc

pub same_longer : (cs ds : List Component) → 0 < length cs → (0 < length ds → ⊥) → false ≡ are_same cs ds
unfolding are_same
same_longer [] ds some none = absurd (omega arith)
same_longer (c ∷ cs) [] some none = refl
same_longer (c ∷ cs) (d ∷ ds) some none = absurd (none (omega arith))

begin_first : (cs ds : List Component) → 0 < length ds → begin_with cs ds ≡ (is_same (front cs) (front ds) && begin_with (drop 1 cs) (drop 1 ds))
unfolding begin_with
begin_first cs [] some = absurd (omega arith)
begin_first [] (d ∷ ds) some = refl
begin_first (c ∷ cs) (d ∷ ds) some = refl

pub begin_none : (cs ds : List Component) → (0 < length ds → ⊥) → true ≡ begin_with cs ds
unfolding begin_with
begin_none cs [] none = refl
begin_none cs (d ∷ ds) none = absurd (none (omega arith))

pub fewer : (cs ds : List Component) → ds ≡ drop 1 cs → 0 < length cs → length ds < length cs
fewer [] ds e some = absurd (omega arith)
fewer (c ∷ cs) ds e some = rw e (omega arith)

-- the first components, known by their steps and places
module _ (cs ds : List Component) (left_step right_step : Step) (left_place right_place : ℕ) (equal : Bool)
    (is_left_step : left_step ≡ step_of (slice_index_or cs 0 (Number 0))) (is_left_place : left_place ≡ place_of (slice_index_or cs 0 (Number 0)))
    (is_right_step : right_step ≡ step_of (slice_index_or ds 0 (Number 0))) (is_right_place : right_place ≡ place_of (slice_index_or ds 0 (Number 0)))
    (is_equal : equal ≡ is_eq (ordering_then (step_cmp left_step right_step) (nat_cmp left_place right_place))) where
  pub first_same : is_same (front cs) (front ds) ≡ equal
  first_same = rw (← is_left_step, ← is_right_step, ← is_left_place, ← is_right_place) (sym is_equal)

  pub same_equal : equal ≡ true → 0 < length cs → 0 < length ds → are_same (drop 1 cs) (drop 1 ds) ≡ are_same cs ds
  same_equal t left right = sym (same_first cs ds left right ∙ ap (λ b. b && are_same (drop 1 cs) (drop 1 ds)) (first_same ∙ t))

  pub same_unequal : equal ≡ false → 0 < length cs → 0 < length ds → false ≡ are_same cs ds
  same_unequal t left right = sym (same_first cs ds left right ∙ ap (λ b. b && are_same (drop 1 cs) (drop 1 ds)) (first_same ∙ t))

  pub begin_equal : equal ≡ true → 0 < length ds → begin_with (drop 1 cs) (drop 1 ds) ≡ begin_with cs ds
  begin_equal t some = sym (begin_first cs ds some ∙ ap (λ b. b && begin_with (drop 1 cs) (drop 1 ds)) (first_same ∙ t))

  pub begin_unequal : equal ≡ false → 0 < length ds → false ≡ begin_with cs ds
  begin_unequal t some = sym (begin_first cs ds some ∙ ap (λ b. b && begin_with (drop 1 cs) (drop 1 ds)) (first_same ∙ t))

-- what a test tells of a list that it found empty, and of one that it found not to be
pub refuted : (has : Bool) (cs : List Component) → (0 < length cs → has ≡ true) → has ≡ false → 0 < length cs → ⊥
refuted has cs all none some = let h = all some in cc

pub there : (has : Bool) (cs : List Component) → (has ≡ true → 0 < length cs) → has ≡ true → 0 < length cs
there has cs some h = some h
