-- The order of paths, and the paths that begin alike.
use Rattle.std.proofs.Common.{◌≡◌, ◌≢◌, ℕ, List, [], ◌∷◌, ◌++◌, length, refl, sym, ap, subst, ◌∙◌, true, false, arith, length-append}
use Rattle.std.specs.Cmp.{IsTotalOrder}
use Rattle.std.specs.Cmp.Lexicographic.{slice_cmp}
use Rattle.std.specs.Ordering.{is_eq, is_lt, nat_cmp, ordering_reverse, ordering_then}
use Rattle.std.specs.declared.cmp.Ordering.{Ordering}
use Rattle.std.specs.declared.cmp.Ordering.TheVariants.{Less, Equal, Greater}
use Rattle.std.proofs.lemmas.Bool.Decides.{nat_tests}
use Rattle.std.proofs.lemmas.Cmp.{nat_cmp_total, nat_list_cmp_total, tied_itself}
use Rattle.std.proofs.lemmas.Map.Text.{is_eq-slice_cmp}
use Rattle.std.proofs.lemmas.Slice.Eq.{bytes_eq-Decides}
use Rattle.rocks_text.specs.Files.{path_cmp}
use Rattle.rocks_text.specs.Paths.{IsFolderOf}

pub lt_less : (o : Ordering) → is_lt o ≡ true → o ≡ Less
lt_less Less h = refl
lt_less Equal h = cc
lt_less Greater h = cc

pub no_less : (o : Ordering) → is_lt o ≡ false → o ≢ Less
no_less Less h e = cc
no_less Equal h e = cc
no_less Greater h e = cc

-- what `R x y` says where `R y x` is not `Less`
pub back_not_greater : (o back : Ordering) → back ≡ ordering_reverse o → is_lt o ≡ false → back ≢ Greater
back_not_greater Less back e h g = cc
back_not_greater Equal back e h g = let same = sym e ∙ g in cc same
back_not_greater Greater back e h g = let same = sym e ∙ g in cc same

module _ {K : Type 0} {R : K → K → Ordering} (o : IsTotalOrder R) where
  le_lt_by : (x y z : K) (first : Ordering) → R x y ≡ first → first ≢ Greater → R y z ≡ Less → R x z ≡ Less
  le_lt_by x y z Less e h g = o.trans x y z e g
  le_lt_by x y z Equal e h g = o.congr x y z e ∙ g
  le_lt_by x y z Greater e h g = absurd (h refl)

  pub le_lt : (x y z : K) → R x y ≢ Greater → R y z ≡ Less → R x z ≡ Less
  le_lt x y z h g = le_lt_by x y z (R x y) refl h g

pub equal_paths : (x y : List ℕ) → slice_cmp nat_cmp x y ≡ Equal → x ≡ y
equal_paths x y e = (bytes_eq-Decides x y).0 (sym (is_eq-slice_cmp x y) ∙ ap is_eq e)

pub equal_paths_if : (x y : List ℕ) → is_eq (slice_cmp nat_cmp x y) ≡ true → x ≡ y
equal_paths_if x y e = (bytes_eq-Decides x y).0 (sym (is_eq-slice_cmp x y) ∙ e)

pub same_paths : (x y : List ℕ) → x ≡ y → slice_cmp nat_cmp x y ≡ Equal
same_paths x y e = subst (λ (z : List ℕ). slice_cmp nat_cmp x z ≡ Equal) e (tied_itself nat_list_cmp_total x)

between : (x y : List ℕ) (o : Ordering) → slice_cmp nat_cmp x y ≡ o → o ≢ Less → o ≢ Greater → x ≡ y
between x y Less e low high = absurd (low refl)
between x y Equal e low high = equal_paths x y e
between x y Greater e low high = absurd (high refl)

pub neither : (x y : List ℕ) → path_cmp x y ≢ Less → path_cmp x y ≢ Greater → x ≡ y
neither x y low high = between x y (slice_cmp nat_cmp x y) refl low high

-- a path is not less than what it begins with
pub front_not_less : (front rest : List ℕ) → slice_cmp nat_cmp (front ++ rest) front ≢ Less
front_not_less [] [] e = cc
front_not_less [] (r ∷ rest) e = cc
front_not_less (f ∷ front) rest e =
    let here = tied_itself nat_cmp_total f in
    front_not_less front rest (subst (λ (o : Ordering). ordering_then o (slice_cmp nat_cmp (front ++ rest) front) ≡ Less) here e)

nat_equal : (a b : ℕ) → nat_cmp a b ≡ Equal → a ≡ b
nat_equal a b e = grind (arith, nat_tests)

first_between : (a f : ℕ) (o : Ordering) (low high : Ordering) → nat_cmp a f ≡ o → ordering_then o low ≢ Less → ordering_then o high ≢ Greater → (a ≡ f) × (low ≢ Less) × (high ≢ Greater)
first_between a f Less low high e h g = absurd (h refl)
first_between a f Equal low high e h g = (nat_equal a f e, h, g)
first_between a f Greater low high e h g = absurd (g refl)

-- a path begins alike where it is not below the front and not above another that begins so
pub front_between : (front path rest : List ℕ) → slice_cmp nat_cmp path front ≢ Less → slice_cmp nat_cmp path (front ++ rest) ≢ Greater → (more : List ℕ) × (path ≡ front ++ more)
front_between [] path rest low high = (path, refl)
front_between (f ∷ front) [] rest low high = absurd (low refl)
front_between (f ∷ front) (a ∷ path) rest low high =
    let here = first_between a f (nat_cmp a f) (slice_cmp nat_cmp path front) (slice_cmp nat_cmp path (front ++ rest)) refl low high in
    let behind = front_between front path rest here.1 here.2 in
    (behind.0, λ i. here.0 i ∷ behind.1 i)

-- a folder's path is not that of a file in it
pub folder_differs : (folder path : List ℕ) → IsFolderOf folder path → folder ≢ path
folder_differs folder path is same =
    let sizes = ap (λ (l : List ℕ). length l) (same ∙ is.1) in
    let whole = length-append folder (47 ∷ is.0) in
    absurd (omega arith)
