-- The order of places.
use Rattle.std.proofs.Common.{◌≡◌, ◌≢◌, ℕ, List, ◌∷◌, length, refl, sym, ap, subst, ◌∙◌, Bool, true, false, ◌&&◌, eqb, eq-eqb, arith, length-append}
use borrow.Author.Tests.{eqb-true}
use Rattle.std.specs.Cmp.{IsTotalOrder, IsStrictWeakOrder}
use Rattle.std.specs.Ordering.{eq_by_cmp, is_eq, is_lt, nat_cmp, ordering_reverse, ordering_then}
use Rattle.std.specs.declared.cmp.Ordering.{Ordering}
use Rattle.std.specs.declared.cmp.Ordering.TheVariants.{Less, Equal, Greater}
use Rattle.std.proofs.lemmas.Bool.Decides.{nat_tests}
use Rattle.std.proofs.lemmas.Cmp.{nat_cmp_total, nat_list_cmp_total, on_total, then_total, tied_itself}
use Rattle.std.proofs.lemmas.List.Sorted.{ranks_by}
use Rattle.std.proofs.lemmas.Map.Text.{is_eq-slice_cmp}
use Rattle.std.proofs.lemmas.Slice.Eq.{bytes_eq-Decides}
use Rattle.rocks_text.specs.Files.{path_cmp}
use Rattle.rocks_text.specs.Paths.{IsFolderOf}
use Rattle.twofold_paths.specs.Search.{place_cmp}
use Rattle.twofold_paths.specs.declared.place.Place.{Place}

pub place_total : IsTotalOrder place_cmp
place_total = then_total (on_total (λ (place : Place). place.sort) nat_cmp_total) (on_total (λ (place : Place). place.path) nat_list_cmp_total)

pub place_order : IsStrictWeakOrder (λ x y. is_lt (place_cmp x y))
place_order = ranks_by place_total (λ (x : Place). x)

pub then_equal : (a b : Ordering) → ordering_then a b ≡ Equal → (a ≡ Equal) × (b ≡ Equal)
then_equal Less b h = cc
then_equal Equal b h = (refl, h)
then_equal Greater b h = cc

pub nat_equal : (a b : ℕ) → nat_cmp a b ≡ Equal → a ≡ b
nat_equal a b e = grind (arith, nat_tests)

pub equal_paths : (x y : List ℕ) → path_cmp x y ≡ Equal → x ≡ y
equal_paths x y e = (bytes_eq-Decides x y).0 (sym (is_eq-slice_cmp x y) ∙ ap is_eq e)

pub equal_places : (x y : Place) → place_cmp x y ≡ Equal → x ≡ y
equal_places x y e =
    let parts = then_equal (nat_cmp x.sort y.sort) (path_cmp x.path y.path) e in
    let sorts = nat_equal x.sort y.sort parts.0 in
    let paths = equal_paths x.path y.path parts.1 in
    λ i. record { sort = sorts i; path = paths i }

-- of two that are not less than each other
module _ {K : Type 0} {R : K → K → Ordering} (o : IsTotalOrder R) where
  tied_by : (x y : K) (there : Ordering) → R x y ≡ there → is_lt (R x y) ≡ false → is_lt (R y x) ≡ false → R x y ≡ Equal
  tied_by x y Less e low high = let clash = sym low ∙ ap is_lt e in absurd cc
  tied_by x y Equal e low high = e
  tied_by x y Greater e low high =
      let back = o.antisymm y x ∙ ap ordering_reverse e in
      let clash = sym high ∙ ap is_lt back in
      absurd cc

  pub tied : (x y : K) → is_lt (R x y) ≡ false → is_lt (R y x) ≡ false → R x y ≡ Equal
  tied x y low high = tied_by x y (R x y) refl low high

  -- what is less than one that isn't greater
  lt_le_by : (x y z : K) (there : Ordering) → R y z ≡ there → R x y ≡ Less → there ≢ Greater → R x z ≡ Less
  lt_le_by x y z Less e h g = o.trans x y z h e
  lt_le_by x y z Equal e h g = o.antisymm x z ∙ ap ordering_reverse (sym (o.congr y z x e)) ∙ sym (o.antisymm x y) ∙ h
  lt_le_by x y z Greater e h g = absurd (g refl)

  pub lt_le : (x y z : K) → R x y ≡ Less → R y z ≢ Greater → R x z ≡ Less
  lt_le x y z h g = lt_le_by x y z (R y z) refl h g

  not_less_by : (x y : K) (there : Ordering) → R x y ≡ there → R x y ≢ Less → R y x ≢ Greater
  not_less_by x y Less e h g = absurd (h e)
  not_less_by x y Equal e h g = let back = o.antisymm y x ∙ ap ordering_reverse e in let clash = sym back ∙ g in absurd cc
  not_less_by x y Greater e h g = let back = o.antisymm y x ∙ ap ordering_reverse e in let clash = sym back ∙ g in absurd cc

  pub not_less : (x y : K) → R x y ≢ Less → R y x ≢ Greater
  not_less x y h = not_less_by x y (R x y) refl h

-- a folder's path is not that of a file in it
pub folder_differs : (folder path : List ℕ) → IsFolderOf folder path → folder ≢ path
folder_differs folder path is same =
    let sizes = ap (λ (l : List ℕ). length l) (same ∙ is.1) in
    let whole = length-append folder (47 ∷ is.0) in
    absurd (omega arith)

-- ---- as `==` tells them

-- what `==` of two places computes
abbrev pub are_same : Place → Place → Bool
are_same x y = eqb x.sort y.sort && eq_by_cmp path_cmp x.path y.path

and_both : (a b : Bool) → (a && b) ≡ true → (a ≡ true) × (b ≡ true)
and_both true b h = (refl, h)
and_both false b h = absurd cc

pub same_place : (x y : Place) → are_same x y ≡ true → x ≡ y
same_place x y h =
    let both = and_both (eqb x.sort y.sort) (eq_by_cmp path_cmp x.path y.path) h in
    let sorts : x.sort ≡ y.sort = eqb-true x.sort y.sort both.0 in
    let paths = (bytes_eq-Decides x.path y.path).0 (sym (is_eq-slice_cmp x.path y.path) ∙ both.1) in
    λ i. record { sort = sorts i; path = paths i }

same_itself : (x : Place) → are_same x x ≡ true
same_itself x =
    (λ i. eq-eqb x.sort x.sort refl i && is_eq (tied_itself nat_list_cmp_total x.path i))

pub place_same : (x y : Place) → x ≡ y → are_same x y ≡ true
place_same x y e = subst (λ (z : Place). are_same x z ≡ true) e (same_itself x)
