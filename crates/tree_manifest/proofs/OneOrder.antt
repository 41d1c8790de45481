-- Rocks have one order in which they are listed.
use Rattle.std.proofs.Common.{◌≡◌, ℕ, zero, suc, ◌+◌, ◌≤◌, List, [], ◌∷◌, get_or, refl, sym, ap, ◌∙◌, subst, true, false, cond, map, arith, ⊎_elim, ◌⊎◌, inl, inr, Ordering}
use Rattle.std.specs.Prelude.{Contains, sum_by}
use Rattle.std.specs.Cmp.{IsStrictWeakOrder}
use Rattle.std.specs.List.{AllByRecursion}
use Rattle.std.specs.List.Sorted.{IsPermutation, IsStrictlySortedBy}
use Rattle.std.specs.Ordering.{is_eq, is_gt, is_lt, ordering_reverse}
use Rattle.std.specs.declared.cmp.Ordering.TheVariants.{Less, Equal, Greater}
use Rattle.std.proofs.lemmas.Cmp.{tied_itself}
use Rattle.std.proofs.lemmas.List.Sorted.{Contains-permutation, IsPermutation-sym, ranks_by, sorted_far, sum_by-IsPermutation}
use Rattle.std.proofs.lemmas.List.Sums.{sum_by-cons}
use Rattle.rocks_version.proofs.OrderLaws.{key_equal, key_total}
use Rattle.rocks_version.specs.Keys.{listing_cmp}
use Rattle.rocks_version.specs.declared.key.RockKey.{RockKey}
use Rattle.manifest_text.specs.declared.view.ViewRock.{ViewRock}
use Rattle.tree_manifest.specs.Found.{AreListed}
use Rattle.tree_manifest.proofs.Filled.{below_each}

-- ---- members

here : (rock : ViewRock) (rocks : List ViewRock) → Contains (rock ∷ rocks) rock
here rock rocks = (0, omega arith, refl)

behind : (rock : ViewRock) (rocks : List ViewRock) (other : ViewRock) → Contains rocks other → Contains (rock ∷ rocks) other
behind rock rocks other (k, within, is) = (suc k, omega arith, is)

cases : (rock : ViewRock) (rocks : List ViewRock) (other : ViewRock) → Contains (rock ∷ rocks) other
    → (rock ≡ other) ⊎ Contains rocks other
cases rock rocks other (zero, within, is) = inl is
cases rock rocks other (suc k, within, is) = inr (k, omega arith, is)

none : (other : ViewRock) → Contains [] other → ⊥
none other (k, within, is) = absurd (omega arith)

-- ---- lists that rise

abbrev pub Rise : List ViewRock → Type 0
Rise rocks = IsStrictlySortedBy listing_cmp (map (λ rock. rock.key) rocks)

rise_parts : (rock : ViewRock) (rocks : List ViewRock) → Rise (rock ∷ rocks)
    → AllByRecursion (λ other. listing_cmp rock.key other ≡ Less) (map (λ r. r.key) rocks) × Rise rocks
unfolding IsStrictlySortedBy
rise_parts rock rocks rise = rise

rise_with : (rock : ViewRock) (rocks : List ViewRock)
    → AllByRecursion (λ other. listing_cmp rock.key other ≡ Less) (map (λ r. r.key) rocks) → Rise rocks
    → Rise (rock ∷ rocks)
unfolding IsStrictlySortedBy
rise_with rock rocks below rise = (below, rise)

rise_none : Rise []
unfolding IsStrictlySortedBy
rise_none = tt

not_below_itself : (key : RockKey) → listing_cmp key key ≡ Less → ⊥
not_below_itself key less = let clash : Less ≡ Equal = sym less ∙ tied_itself key_total key in absurd (cc clash)

-- not both are below the other
not_both : (x y : RockKey) → listing_cmp x y ≡ Less → listing_cmp y x ≡ Less → ⊥
not_both x y e f = not_below_itself x (key_total.trans x y x e f)

heads : (x y : ViewRock) (xs ys : List ViewRock) → Rise (x ∷ xs) → Rise (y ∷ ys) → Contains (y ∷ ys) x
    → Contains (x ∷ xs) y → x ≡ y
heads x y xs ys up over x_there y_here =
    ⊎_elim (λ same. sym same)
    (λ x_behind. ⊎_elim (λ same. same) (λ y_behind. absurd (not_both x.key y.key
    (below_each x.key xs (rise_parts x xs up).0 y y_behind) (below_each y.key ys (rise_parts y ys over).0 x x_behind)))
    (cases x xs y y_here))
    (cases y ys x x_there)

tails : (x y : ViewRock) (xs ys : List ViewRock) → Rise (x ∷ xs) → x ≡ y
    → ((z : ViewRock) → Contains (x ∷ xs) z → Contains (y ∷ ys) z) → (z : ViewRock) → Contains xs z → Contains ys z
tails x y xs ys up same all z has =
    ⊎_elim (λ first. let below = below_each x.key xs (rise_parts x xs up).0 z has in
    absurd (not_below_itself x.key (subst (λ (r : ViewRock). listing_cmp x.key r.key ≡ Less) (sym (same ∙ first)) below)))
    (λ more. more) (cases y ys z (all z (behind x xs z has)))

one_rising : (xs ys : List ViewRock) → Rise xs → Rise ys → ((z : ViewRock) → Contains xs z → Contains ys z)
    → ((z : ViewRock) → Contains ys z → Contains xs z) → xs ≡ ys
one_rising [] [] up over forth back = refl
one_rising [] (y ∷ ys) up over forth back = absurd (none y (back y (here y ys)))
one_rising (x ∷ xs) [] up over forth back = absurd (none x (forth x (here x xs)))
one_rising (x ∷ xs) (y ∷ ys) up over forth back =
    let first = heads x y xs ys up over (forth x (here x xs)) (back y (here y ys)) in
    let rest = one_rising xs ys (rise_parts x xs up).1 (rise_parts y ys over).1 (tails x y xs ys up first forth)
    (tails y x ys xs over (sym first) back) in
    λ i. first i ∷ rest i

-- lists that rise and have the same rocks are equal
pub one_order : (xs ys : List ViewRock) → Rise xs → Rise ys → IsPermutation xs ys → xs ≡ ys
one_order xs ys up over same =
    one_rising xs ys up over (λ z has. Contains-permutation xs ys z same has)
    (λ z has. Contains-permutation ys xs z (IsPermutation-sym xs ys same) has)

-- ---- how often a key stands in a list

abbrev one_if : RockKey → ViewRock → ℕ
one_if key rock = cond (is_eq (listing_cmp key rock.key)) 1 0

abbrev tally : RockKey → List ViewRock → ℕ
tally key rocks = sum_by (one_if key) rocks

tied_is : (o : Ordering) → is_eq o ≡ true → o ≡ Equal
tied_is Less h = cc
tied_is Equal h = refl
tied_is Greater h = cc

tally_some : (key : RockKey) (rocks : List ViewRock) (rock : ViewRock) → Contains rocks rock
    → listing_cmp key rock.key ≡ Equal → 1 ≤ tally key rocks
tally_some key [] rock has tied = absurd (none rock has)
tally_some key (first ∷ rocks) rock has tied =
    let size = sum_by-cons (one_if key) first rocks in
    ⊎_elim (λ same. let one : one_if key first ≡ 1 = ap (λ (r : ViewRock). one_if key r) same ∙ ap (λ o. cond (is_eq o) 1 0) tied in omega arith)
    (λ more. let some = tally_some key rocks rock more tied in omega arith) (cases first rocks rock has)

-- no key is that of any of them
tally_none : (key : RockKey) (rocks : List ViewRock)
    → ((rock : ViewRock) → Contains rocks rock → is_eq (listing_cmp key rock.key) ≡ false) → tally key rocks ≡ 0
tally_none key [] other = refl
tally_none key (first ∷ rocks) other =
    let size = sum_by-cons (one_if key) first rocks in
    let zero_here : one_if key first ≡ 0 = ap (λ b. cond b 1 0) (other first (here first rocks)) in
    let rest = tally_none key rocks (λ rock has. other rock (behind first rocks rock has)) in
    omega arith

-- in a list that rises each key stands once at most
tally_most : (key : RockKey) (rocks : List ViewRock) → Rise rocks → tally key rocks ≤ 1
tally_most key [] up = omega arith
tally_most key (first ∷ rocks) up =
    let size = sum_by-cons (one_if key) first rocks in
    let parts = rise_parts first rocks up in
    elim (is_eq (listing_cmp key first.key)) as (λ b. is_eq (listing_cmp key first.key) ≡ b → tally key (first ∷ rocks) ≤ 1) [
      | true ↦ λ is.
          let same : key ≡ first.key = key_equal key first.key (tied_is (listing_cmp key first.key) is) in
          let rest = tally_none key rocks (λ rock has.
          ap (λ k. is_eq (listing_cmp k rock.key)) same ∙ ap is_eq (below_each first.key rocks parts.0 rock has)) in
          let one : one_if key first ≡ 1 = ap (λ b. cond b 1 0) is in omega arith
      | false ↦ λ is.
          let rest = tally_most key rocks parts.1 in
          let one : one_if key first ≡ 0 = ap (λ b. cond b 1 0) is in omega arith
    ] refl

-- ---- lists in which none is listed before an earlier one

abbrev Weak : List ViewRock → Type 0
Weak [] = Unit {0}
Weak (rock ∷ rocks) =
    ((other : ViewRock) → Contains rocks other → is_gt (listing_cmp rock.key other.key) ≡ false) × Weak rocks

no_gt_back : (o back : Ordering) → back ≡ ordering_reverse o → is_lt o ≡ false → is_gt back ≡ false
no_gt_back Less back e h = cc
no_gt_back Equal back e h = ap is_gt e
no_gt_back Greater back e h = ap is_gt e

pub listed_order : IsStrictWeakOrder (λ (x : ViewRock) (y : ViewRock). is_lt (listing_cmp x.key y.key))
listed_order = ranks_by key_total (λ (x : ViewRock). x.key)

tail_listed : (x : ViewRock) (xs : List ViewRock) → AreListed (x ∷ xs) → AreListed xs
tail_listed x xs up k d low below =
    let e : suc k + 1 ≡ suc (k + 1) = omega arith in
    subst (λ (n : ℕ). is_lt (listing_cmp (get_or (x ∷ xs) n d).key (get_or (x ∷ xs) (suc k) d).key) ≡ false) e
    (up (suc k) d (omega arith) (omega arith))

weak_if : (xs : List ViewRock) → AreListed xs → Weak xs
weak_if [] up = tt
weak_if (x ∷ xs) up = (
  λ y has. let far = sorted_far (λ (a : ViewRock) (b : ViewRock). is_lt (listing_cmp a.key b.key)) listed_order (x ∷ xs) up 0 (suc has.0) y (omega arith) (let within = has.1 in omega arith) in
      no_gt_back (listing_cmp y.key x.key) (listing_cmp x.key y.key) (key_total.antisymm x.key y.key)
      (subst (λ (z : ViewRock). is_lt (listing_cmp z.key x.key) ≡ false) has.2 far),
  weak_if xs (tail_listed x xs up),
)

all_below : (key : RockKey) (rocks : List ViewRock)
    → ((other : ViewRock) → Contains rocks other → listing_cmp key other.key ≡ Less)
    → AllByRecursion (λ other. listing_cmp key other ≡ Less) (map (λ r. r.key) rocks)
all_below key [] each = tt
all_below key (rock ∷ rocks) each =
    (each rock (here rock rocks), all_below key rocks (λ other has. each other (behind rock rocks other has)))

less_if : (o : Ordering) → is_gt o ≡ false → (o ≡ Equal → ⊥) → o ≡ Less
less_if Less h g = refl
less_if Equal h g = absurd (g refl)
less_if Greater h g = cc

rise_if : (rocks : List ViewRock) → Weak rocks → ((key : RockKey) → tally key rocks ≤ 1) → Rise rocks
rise_if [] weak most = rise_none
rise_if (rock ∷ rocks) weak most =
    rise_with rock rocks
    (all_below rock.key rocks (λ other has. less_if (listing_cmp rock.key other.key) (weak.0 other has) (λ tied.
    let size = sum_by-cons (one_if rock.key) rock rocks in
    let itself : one_if rock.key rock ≡ 1 = ap (λ o. cond (is_eq o) 1 0) (tied_itself key_total rock.key) in
    let some = tally_some rock.key rocks other has tied in
    let limit = most rock.key in
    absurd (omega arith))))
    (rise_if rocks weak.1 (λ key. let size = sum_by-cons (one_if key) rock rocks in let limit = most key in omega arith))

-- what is sorted of rocks that are listed each once are these rocks
pub listed_again : (rocks found : List ViewRock) → Rise rocks → AreListed found → IsPermutation rocks found → found ≡ rocks
listed_again rocks found up listed same =
    sym (one_order rocks found up
    (rise_if found (weak_if found listed)
    (λ key. let e = sum_by-IsPermutation (one_if key) rocks found same in let limit = tally_most key rocks up in omega arith))
    same)
