-- Where some path is twofold, there is a least one.
use Rattle.std.proofs.Common.{◌≡◌, ℕ, zero, suc, ◌+◌, ◌<◌, ◌≤◌, List, [], ◌∷◌, refl, sym, ap, ◌∙◌, Bool, true, false, cond, Some, arith}
use Rattle.std.specs.Prelude.{slice_get}
use Rattle.std.specs.Ordering.{is_lt, ordering_reverse}
use Rattle.std.specs.declared.cmp.Ordering.TheVariants.{Less, Equal, Greater}
use Rattle.std.proofs.lemmas.Cmp.{nat_list_cmp_total, tied_itself}
use Rattle.rocks_text.specs.Files.{path_cmp}
use Rattle.twofold_paths.specs.Places.{IsTwofoldPath, IsLeastTwofoldPath}
use Rattle.twofold_paths.specs.declared.place.Place.{Place}

abbrev one_if : Bool → ℕ
one_if b = cond b 1 0

-- how many places have a lesser path
below : List ℕ → List Place → ℕ
below path [] = 0
below path (place ∷ places) = one_if (is_lt (path_cmp place.path path)) + below path places

lt_less : (x y : List ℕ) → is_lt (path_cmp x y) ≡ true → path_cmp x y ≡ Less
lt_less x y h = elim (path_cmp x y) as (λ o. is_lt o ≡ true → o ≡ Less) [ Less ↦ λ _. refl | Equal ↦ λ e. cc | Greater ↦ λ e. cc ] h

module _ (path other : List ℕ) (less : path_cmp other path ≡ Less) where
  less_through : (x : List ℕ) → is_lt (path_cmp x other) ≡ true → is_lt (path_cmp x path) ≡ true
  less_through x h = ap is_lt (nat_list_cmp_total.trans x other path (lt_less x other h) less)

  no_more_by : (a b : Bool) → (a ≡ true → b ≡ true) → one_if a ≤ one_if b
  no_more_by true b h = let e = ap one_if (h refl) in omega arith
  no_more_by false b h = omega arith

  no_more : (place : Place) → one_if (is_lt (path_cmp place.path other)) ≤ one_if (is_lt (path_cmp place.path path))
  no_more place = no_more_by (is_lt (path_cmp place.path other)) (is_lt (path_cmp place.path path)) (less_through place.path)

  at_most : (places : List Place) → below other places ≤ below path places
  unfolding below
  at_most [] = omega arith
  at_most (place ∷ places) = let here = no_more place in let rest = at_most places in omega arith

  itself : (place : Place) → place.path ≡ other → one_if (is_lt (path_cmp place.path other)) ≡ 0
  itself place same = ap (λ (p : List ℕ). one_if (is_lt (path_cmp p other))) same ∙ ap (λ o. one_if (is_lt o)) (tied_itself nat_list_cmp_total other)

  counted : (place : Place) → place.path ≡ other → one_if (is_lt (path_cmp place.path path)) ≡ 1
  counted place same = ap (λ (p : List ℕ). one_if (is_lt (path_cmp p path))) same ∙ ap (λ o. one_if (is_lt o)) less

  fewer : (places : List Place) (k : ℕ) (place : Place) → slice_get places k ≡ Some place → place.path ≡ other → below other places < below path places
  unfolding below
  fewer [] k place is same = absurd cc
  fewer (first ∷ places) zero place is same =
      let it : first ≡ place = cc in
      let its = ap (λ (p : Place). p.path) it ∙ same in
      let none = itself first its in
      let one = counted first its in
      let rest = at_most places in
      omega arith
  fewer (first ∷ places) (suc k) place is same =
      let here = no_more first in
      let rest = fewer places k place is same in
      omega arith

module _ (places : List Place) (no_least : (path : List ℕ) → IsLeastTwofoldPath places path → ⊥) where
  by_count : (n : ℕ) (path : List ℕ) → below path places < n → IsTwofoldPath places path → ⊥
  by_count zero path few is = absurd (omega arith)
  by_count (suc n) path few is = no_least path (record {
    is = is;
    least = λ other twofold greater.
        let less = nat_list_cmp_total.antisymm other path ∙ ap ordering_reverse greater in
        let fewer_still = fewer path other less places twofold.second twofold.lower twofold.is_lower (sym twofold.at) in
        by_count n other (omega arith) twofold;
  })

  pub none_without_least : (path : List ℕ) → IsTwofoldPath places path → ⊥
  none_without_least path is = by_count (below path places + 1) path (omega arith) is
