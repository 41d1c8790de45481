-- Lists of components, each followed by zeros.
use Rattle.std.proofs.Common.{◌≡◌, ℕ, zero, suc, ◌-◌, ◌≤◌, max, List, [], ◌∷◌, length, drop, replicate, refl, sym, ap, ◌∙◌, arith}
use Rattle.std.specs.declared.cmp.Ordering.{Ordering}
use Rattle.std.specs.declared.cmp.Ordering.TheVariants.{Less, Equal, Greater}
use Rattle.std.specs.List.{slice_index_or}
use Rattle.std.specs.Ordering.{ordering_then, ordering_reverse, nat_cmp}
use Rattle.std.specs.Cmp.{IsTotalOrder}
use Rattle.std.specs.Cmp.Lexicographic.{slice_cmp}
use Rattle.std.proofs.lemmas.Cmp.{nat_cmp_total, on_total, then_total, lists_total, tied_itself}
use Rattle.rocks_version.specs.Components.{Component, Number}
use Rattle.rocks_version.specs.declared.component.Step.{Step}
use Rattle.rocks_version.specs.Orders.{component_cmp, components_cmp, height_of, padded, place_of, step_cmp, step_of}

pub component_total : IsTotalOrder component_cmp
component_total = then_total (on_total step_of (on_total height_of nat_cmp_total)) (on_total place_of nat_cmp_total)

-- so many of the components and of the zeros behind them
abbrev zeros_behind : ℕ → List Component → List Component
zeros_behind zero cs = []
zeros_behind (suc n) [] = Number 0 ∷ zeros_behind n []
zeros_behind (suc n) (c ∷ cs) = c ∷ zeros_behind n cs

zeros_alone : (n : ℕ) → replicate n (Number 0) ≡ zeros_behind n []
zeros_alone zero = refl
zeros_alone (suc n) = ap (λ cs. Number 0 ∷ cs) (zeros_alone n)

padded_is : (n : ℕ) (cs : List Component) → length cs ≤ n → padded n cs ≡ zeros_behind n cs
padded_is n [] within = let all : n - 0 ≡ n = omega arith in rw all (zeros_alone n)
padded_is zero (c ∷ cs) within = absurd (omega arith)
padded_is (suc n) (c ∷ cs) within =
    let less : suc n - suc (length cs) ≡ n - length cs = omega arith in
    rw less (ap (λ l. c ∷ l) (padded_is n cs (omega arith)))

by_zeros : ℕ → List Component → List Component → Ordering
by_zeros n cs ds = slice_cmp component_cmp (zeros_behind n cs) (zeros_behind n ds)

-- more zeros tell no more
more_zeros : (m n : ℕ) (cs ds : List Component) → m ≤ n → length cs ≤ m → length ds ≤ m → by_zeros n cs ds ≡ by_zeros m cs ds
unfolding by_zeros
more_zeros zero n [] [] le left right = tied_itself (lists_total component_total) (zeros_behind n [])
more_zeros zero n [] (d ∷ ds) le left right = absurd (omega arith)
more_zeros zero n (c ∷ cs) ds le left right = absurd (omega arith)
more_zeros (suc m) zero cs ds le left right = absurd (omega arith)
more_zeros (suc m) (suc n) [] [] le left right =
    ap (ordering_then (component_cmp (Number 0) (Number 0))) (more_zeros m n [] [] (omega arith) (omega arith) (omega arith))
more_zeros (suc m) (suc n) [] (d ∷ ds) le left right =
    ap (ordering_then (component_cmp (Number 0) d)) (more_zeros m n [] ds (omega arith) (omega arith) (omega arith))
more_zeros (suc m) (suc n) (c ∷ cs) [] le left right =
    ap (ordering_then (component_cmp c (Number 0))) (more_zeros m n cs [] (omega arith) (omega arith) (omega arith))
more_zeros (suc m) (suc n) (c ∷ cs) (d ∷ ds) le left right =
    ap (ordering_then (component_cmp c d)) (more_zeros m n cs ds (omega arith) (omega arith) (omega arith))

-- the lists are compared with any number of zeros behind them that is enough for both
compared : (n : ℕ) (cs ds : List Component) → length cs ≤ n → length ds ≤ n → components_cmp cs ds ≡ by_zeros n cs ds
unfolding components_cmp by_zeros
compared n cs ds left right =
    let most = max (length cs) (length ds) in
    rw (padded_is most cs (omega arith), padded_is most ds (omega arith)) (sym (more_zeros most n cs ds (omega arith) (omega arith) (omega arith)))

-- the first components decide, and else those behind
pub components_cmp_first : (cs ds : List Component) → components_cmp cs ds
    ≡ ordering_then (component_cmp (slice_index_or cs 0 (Number 0)) (slice_index_or ds 0 (Number 0))) (components_cmp (drop 1 cs) (drop 1 ds))
unfolding by_zeros
components_cmp_first [] [] = refl
components_cmp_first [] (d ∷ ds) =
    let n = length ds in
    compared (suc n) [] (d ∷ ds) (omega arith) (omega arith) ∙ ap (ordering_then (component_cmp (Number 0) d)) (sym (compared n [] ds (omega arith) (omega arith)))
components_cmp_first (c ∷ cs) [] =
    let n = length cs in
    compared (suc n) (c ∷ cs) [] (omega arith) (omega arith) ∙ ap (ordering_then (component_cmp c (Number 0))) (sym (compared n cs [] (omega arith) (omega arith)))
components_cmp_first (c ∷ cs) (d ∷ ds) =
    let n = max (length cs) (length ds) in
    compared (suc n) (c ∷ cs) (d ∷ ds) (omega arith) (omega arith) ∙ ap (ordering_then (component_cmp c d)) (sym (compared n cs ds (omega arith) (omega arith)))

pub components_total : IsTotalOrder components_cmp
unfolding by_zeros
components_total =
    let lists = lists_total component_total in
    record {
      antisymm = λ x y. let n = max (length x) (length y) in
          compared n x y (omega arith) (omega arith) ∙ lists.antisymm (zeros_behind n x) (zeros_behind n y) ∙ ap ordering_reverse (sym (compared n y x (omega arith) (omega arith)));
      trans = λ x y z xy yz. let n = max (length x) (max (length y) (length z)) in
          compared n x z (omega arith) (omega arith)
          ∙ lists.trans (zeros_behind n x) (zeros_behind n y) (zeros_behind n z) (sym (compared n x y (omega arith) (omega arith)) ∙ xy) (sym (compared n y z (omega arith) (omega arith)) ∙ yz);
      congr = λ x y z xy. let n = max (length x) (max (length y) (length z)) in
          compared n x z (omega arith) (omega arith)
          ∙ lists.congr (zeros_behind n x) (zeros_behind n y) (zeros_behind n z) (sym (compared n x y (omega arith) (omega arith)) ∙ xy)
          ∙ sym (compared n y z (omega arith) (omega arith));
    }

ended : (order rest : Ordering) → (order ≡ Equal → ⊥) → ordering_then order rest ≡ order
ended Less rest unequal = refl
ended Equal rest unequal = absurd (unequal refl)
ended Greater rest unequal = refl

-- the first components, known by their steps and places
module _ (cs ds : List Component) (left_step right_step : Step) (left_place right_place : ℕ) (order : Ordering)
    (is_left_step : left_step ≡ step_of (slice_index_or cs 0 (Number 0))) (is_left_place : left_place ≡ place_of (slice_index_or cs 0 (Number 0)))
    (is_right_step : right_step ≡ step_of (slice_index_or ds 0 (Number 0))) (is_right_place : right_place ≡ place_of (slice_index_or ds 0 (Number 0)))
    (is_order : order ≡ ordering_then (step_cmp left_step right_step) (nat_cmp left_place right_place)) where
  first_order : component_cmp (slice_index_or cs 0 (Number 0)) (slice_index_or ds 0 (Number 0)) ≡ order
  first_order = rw (← is_left_step, ← is_right_step, ← is_left_place, ← is_right_place) (sym is_order)

  -- where they are equal, those behind them decide
  pub compared_equal : order ≡ Equal → components_cmp (drop 1 cs) (drop 1 ds) ≡ components_cmp cs ds
  compared_equal equal =
      sym (components_cmp_first cs ds ∙ ap (λ o. ordering_then o (components_cmp (drop 1 cs) (drop 1 ds))) (first_order ∙ equal))

  -- and else they do
  pub compared_unequal : (order ≡ Equal → ⊥) → order ≡ components_cmp cs ds
  compared_unequal unequal =
      sym (components_cmp_first cs ds ∙ ap (λ o. ordering_then o (components_cmp (drop 1 cs) (drop 1 ds))) first_order ∙ ended order (components_cmp (drop 1 cs) (drop 1 ds)) unequal)

pub compared_none : (cs ds : List Component) → cs ≡ [] → ds ≡ [] → Equal ≡ components_cmp cs ds
unfolding components_cmp
compared_none cs ds left right = rw (left, right) refl
