-- Items have one order.
use Rattle.std.proofs.Common.{◌≡◌, ℕ, zero, suc, ◌+◌, ◌≤◌, List, [], ◌∷◌, get_or, refl, sym, ap, subst, ◌∙◌, Bool, true, false, cond, ⊎_elim, arith}
use Rattle.std.specs.Prelude.{sum_by}
use Rattle.std.specs.Cmp.{IsTotalOrder, IsStrictWeakOrder}
use Rattle.std.specs.List.{Contains}
use Rattle.std.specs.List.Sorted.{IsPermutation, IsSorted}
use Rattle.std.specs.Ordering.{is_eq, is_gt, is_lt, ordering_reverse, ordering_then}
use Rattle.std.specs.declared.cmp.Ordering.{Ordering}
use Rattle.std.specs.declared.cmp.Ordering.TheVariants.{Less, Equal, Greater}
use Rattle.std.proofs.lemmas.Cmp.{nat_cmp_total, nat_list_cmp_total, on_total, then_total, tied_itself, upto}
use Rattle.std.proofs.lemmas.List.Sorted.{Contains-permutation, IsPermutation-cons, IsPermutation-middle, IsPermutation-refl, IsPermutation-sym, IsPermutation-trans, ranks_by, sorted_far, sum_by-IsPermutation}
use Rattle.std.proofs.lemmas.List.Sums.{sum_by-cons}
use Rattle.rocks_text.specs.Files.{path_cmp}
use Rattle.rocks_text.specs.Items.{item_cmp, kind_cmp, rank_of}
use Rattle.rocks_text.specs.declared.item.Item.{Item}
use Rattle.rocks_text.specs.declared.item.Kind.{Kind}
use Rattle.rocks_text.specs.declared.item.Kind.TheVariants.{Lua, Lib, Bin}
use Rattle.tree_claims.specs.Rocks.{with_item, in_item_order}
use Rattle.tree_claims.proofs.Members.{cons_behind, cons_cases, cons_here, nil_none}
use Rattle.tree_claims.proofs.PathOrder.{equal_paths}

item_total : IsTotalOrder item_cmp
item_total = then_total (on_total (λ (item : Item). item.kind) (on_total rank_of nat_cmp_total)) (on_total (λ (item : Item). item.path) nat_list_cmp_total)

kind_equal : (left right : Kind) → kind_cmp left right ≡ Equal → left ≡ right
kind_equal Lua Lua e = refl
kind_equal Lua Lib e = cc
kind_equal Lua Bin e = cc
kind_equal Lib Lua e = cc
kind_equal Lib Lib e = refl
kind_equal Lib Bin e = cc
kind_equal Bin Lua e = cc
kind_equal Bin Lib e = cc
kind_equal Bin Bin e = refl

then_equal : (a b : Ordering) → ordering_then a b ≡ Equal → (a ≡ Equal) × (b ≡ Equal)
then_equal Less b h = cc
then_equal Equal b h = (refl, h)
then_equal Greater b h = cc

item_equal : (left right : Item) → item_cmp left right ≡ Equal → left ≡ right
item_equal left right e =
    let parts = then_equal (kind_cmp left.kind right.kind) (path_cmp left.path right.path) e in
    let kinds = kind_equal left.kind right.kind parts.0 in
    let paths = equal_paths left.path right.path parts.1 in
    λ i. record { kind = kinds i; path = paths i }

-- ---- in order, by what each item stands before

abbrev Ordered : List Item → Type 0
Ordered [] = Unit {0}
Ordered (x ∷ xs) = ((y : Item) → Contains xs y → is_gt (item_cmp x y) ≡ false) × Ordered xs

no_gt_back : (o back : Ordering) → back ≡ ordering_reverse o → is_lt o ≡ false → is_gt back ≡ false
no_gt_back Less back e h = cc
no_gt_back Equal back e h = ap is_gt e
no_gt_back Greater back e h = ap is_gt e

no_lt_back : (o back : Ordering) → back ≡ ordering_reverse o → is_gt o ≡ false → is_lt back ≡ false
no_lt_back Less back e h = ap is_lt e
no_lt_back Equal back e h = ap is_lt e
no_lt_back Greater back e h = cc

item_order : IsStrictWeakOrder (λ x y. is_lt (item_cmp x y))
item_order = ranks_by item_total (λ (x : Item). x)

tail_sorted : (x : Item) (xs : List Item) → IsSorted item_cmp (x ∷ xs) → IsSorted item_cmp xs
tail_sorted x xs up k d low below =
    let e : suc k + 1 ≡ suc (k + 1) = omega arith in
    subst (λ (n : ℕ). is_lt (item_cmp (get_or (x ∷ xs) n d) (get_or (x ∷ xs) (suc k) d)) ≡ false) e (up (suc k) d (omega arith) (omega arith))

ordered_if : (xs : List Item) → IsSorted item_cmp xs → Ordered xs
ordered_if [] up = tt
ordered_if (x ∷ xs) up = (
  λ y has. let far = sorted_far (λ a b. is_lt (item_cmp a b)) item_order (x ∷ xs) up 0 (suc has.0) y (omega arith) (let within = has.1 in omega arith) in
      no_gt_back (item_cmp y x) (item_cmp x y) (item_total.antisymm x y) (subst (λ (z : Item). is_lt (item_cmp z x) ≡ false) has.2 far),
  ordered_if xs (tail_sorted x xs up),
)

sorted_if : (xs : List Item) → Ordered xs → IsSorted item_cmp xs
sorted_if [] up k d low below = absurd (omega arith)
sorted_if (x ∷ []) up k d low below = absurd (omega arith)
sorted_if (x ∷ y ∷ xs) up zero d low below = no_lt_back (item_cmp x y) (item_cmp y x) (item_total.antisymm y x) (up.0 y (cons_here y xs))
sorted_if (x ∷ y ∷ xs) up (suc k) d low below =
    let e : suc (k + 1) ≡ suc k + 1 = omega arith in
    subst (λ (n : ℕ). is_lt (item_cmp (get_or (x ∷ y ∷ xs) n d) (get_or (x ∷ y ∷ xs) (suc k) d)) ≡ false) e (sorted_if (y ∷ xs) up.1 k d (omega arith) (omega arith))

-- ---- the definition's order

cond_both : {X : Type 0} (P : X → Type 0) (b : Bool) (x y : X) → (b ≡ true → P x) → (b ≡ false → P y) → P (cond b x y)
cond_both P true x y h g = h refl
cond_both P false x y h g = g refl

with_same : (item : Item) (items : List Item) → IsPermutation (item ∷ items) (with_item item items)
with_same item [] = IsPermutation-refl (item ∷ [])
with_same item (other ∷ items) =
    cond_both (λ (l : List Item). IsPermutation (item ∷ other ∷ items) l) (is_gt (item_cmp item other)) (other ∷ with_item item items) (item ∷ other ∷ items)
    (λ _. IsPermutation-trans (item ∷ other ∷ items) (other ∷ item ∷ items) (other ∷ with_item item items)
    (IsPermutation-sym (other ∷ item ∷ items) (item ∷ other ∷ items) (IsPermutation-middle (other ∷ []) item items))
    (IsPermutation-cons other (item ∷ items) (with_item item items) (with_same item items)))
    (λ _. IsPermutation-refl (item ∷ other ∷ items))

pub same_items : (items : List Item) → IsPermutation items (in_item_order items)
same_items [] = IsPermutation-refl []
same_items (item ∷ items) =
    IsPermutation-trans (item ∷ items) (item ∷ in_item_order items) (with_item item (in_item_order items))
    (IsPermutation-cons item items (in_item_order items) (same_items items)) (with_same item (in_item_order items))

gt_back : (o back : Ordering) → back ≡ ordering_reverse o → is_gt o ≡ true → is_gt back ≡ false
gt_back Less back e h = cc
gt_back Equal back e h = cc
gt_back Greater back e h = ap is_gt e

no_gt_through : (x y z : Item) → is_gt (item_cmp x y) ≡ false → is_gt (item_cmp y z) ≡ false → is_gt (item_cmp x z) ≡ false
no_gt_through x y z h g = upto item_total x y z h g

with_ordered : (item : Item) (items : List Item) → Ordered items → Ordered (with_item item items)
with_ordered item [] up = (λ y has. absurd (nil_none y has), tt)
with_ordered item (other ∷ items) up =
    cond_both Ordered (is_gt (item_cmp item other)) (other ∷ with_item item items) (item ∷ other ∷ items)
    (λ above. (
      λ y has. ⊎_elim (λ same. subst (λ (z : Item). is_gt (item_cmp other z) ≡ false) same (gt_back (item_cmp item other) (item_cmp other item) (item_total.antisymm other item) above))
          (up.0 y) (cons_cases item items y (Contains-permutation (with_item item items) (item ∷ items) y (IsPermutation-sym (item ∷ items) (with_item item items) (with_same item items)) has)),
      with_ordered item items up.1,
    ))
    (λ below. (
      λ y has. ⊎_elim (λ same. subst (λ (z : Item). is_gt (item_cmp item z) ≡ false) same below)
          (λ more. no_gt_through item other y below (up.0 y more)) (cons_cases other items y has),
      up,
    ))

ordered : (items : List Item) → Ordered (in_item_order items)
ordered [] = tt
ordered (item ∷ items) = with_ordered item (in_item_order items) (ordered items)

pub items_sorted : (items : List Item) → IsSorted item_cmp (in_item_order items)
items_sorted items = sorted_if (in_item_order items) (ordered items)

-- ---- how often an item stands in a list

abbrev one_if : Item → Item → ℕ
one_if item other = cond (is_eq (item_cmp item other)) 1 0

tally : Item → List Item → ℕ
tally item [] = 0
tally item (x ∷ xs) = one_if item x + tally item xs

tally_sum : (item : Item) (xs : List Item) → tally item xs ≡ sum_by (one_if item) xs
unfolding tally
tally_sum item [] = refl
tally_sum item (x ∷ xs) = ap (λ (n : ℕ). one_if item x + n) (tally_sum item xs) ∙ sym (sum_by-cons (one_if item) x xs)

tally_same : (item : Item) (xs ys : List Item) → IsPermutation xs ys → tally item xs ≡ tally item ys
tally_same item xs ys moved = tally_sum item xs ∙ sym (sum_by-IsPermutation (one_if item) xs ys moved) ∙ sym (tally_sum item ys)

one_itself : (x : Item) → one_if x x ≡ 1
one_itself x = ap (λ (o : Ordering). cond (is_eq o) 1 0) (tied_itself item_total x)

tally_here : (x : Item) (xs : List Item) → 1 ≤ tally x (x ∷ xs)
unfolding tally
tally_here x xs = let one = one_itself x in omega arith

tally_behind : (x y : Item) (xs : List Item) → x ≡ y → ((item : Item) → tally item (x ∷ xs) ≡ tally item (y ∷ xs))
tally_behind x y xs same item = ap (λ (z : Item). tally item (z ∷ xs)) same

is_eq_equal : (o : Ordering) → is_eq o ≡ true → o ≡ Equal
is_eq_equal Less h = cc
is_eq_equal Equal h = refl
is_eq_equal Greater h = cc

tally_some : (x : Item) (xs : List Item) → 1 ≤ tally x xs → Contains xs x
unfolding tally
tally_some x [] some = absurd (omega arith)
tally_some x (y ∷ xs) some =
    elim (is_eq (item_cmp x y)) as (λ b. is_eq (item_cmp x y) ≡ b → 1 ≤ cond b 1 0 + tally x xs → Contains (y ∷ xs) x) [
      | true ↦ λ is _. subst (λ (z : Item). Contains (y ∷ xs) z) (sym (item_equal x y (is_eq_equal (item_cmp x y) is))) (cons_here y xs)
      | false ↦ λ _ more. cons_behind y xs x (tally_some x xs (omega arith))
    ] refl some

-- ---- two orders of the same items are one

lower : (x y : Item) (o : Ordering) → item_cmp x y ≡ o → is_gt (item_cmp x y) ≡ false → is_gt (item_cmp y x) ≡ false → x ≡ y
lower x y Less e h g = let back = item_total.antisymm y x ∙ ap ordering_reverse e in let clash = sym g ∙ ap is_gt back in absurd cc
lower x y Equal e h g = item_equal x y e
lower x y Greater e h g = let clash = sym h ∙ ap is_gt e in absurd cc

heads : (x y : Item) (xs ys : List Item) → Ordered (x ∷ xs) → Ordered (y ∷ ys) → ((item : Item) → tally item (x ∷ xs) ≡ tally item (y ∷ ys)) → x ≡ y
heads x y xs ys up over same =
    let first = tally_here x xs in
    let x_there = tally_some x (y ∷ ys) (let e = same x in omega arith) in
    let second = tally_here y ys in
    let y_here = tally_some y (x ∷ xs) (let e = same y in omega arith) in
    ⊎_elim (λ e. sym e) (λ x_behind. ⊎_elim (λ e. e) (λ y_behind. lower x y (item_cmp x y) refl (up.0 y y_behind) (over.0 x x_behind)) (cons_cases x xs y y_here)) (cons_cases y ys x x_there)

unique : (xs ys : List Item) → Ordered xs → Ordered ys → ((item : Item) → tally item xs ≡ tally item ys) → xs ≡ ys
unfolding tally
unique [] [] up over same = refl
unique [] (y ∷ ys) up over same = let e = same y in let some = tally_here y ys in absurd (omega arith)
unique (x ∷ xs) [] up over same = let e = same x in let some = tally_here x xs in absurd (omega arith)
unique (x ∷ xs) (y ∷ ys) up over same =
    let first = heads x y xs ys up over same in
    let rest = unique xs ys up.1 over.1 (λ item. let e = same item in let f = ap (one_if item) first in omega arith) in
    λ i. first i ∷ rest i

pub one_order : (items other : List Item) → IsPermutation items other → IsSorted item_cmp other → other ≡ in_item_order items
one_order items other moved up =
    unique other (in_item_order items) (ordered_if other up) (ordered items)
    (λ item. sym (tally_same item items other moved) ∙ tally_same item items (in_item_order items) (same_items items))

-- sorted by an order that is this one
pub sorted_alike : (R : Item → Item → Ordering) (xs : List Item) → ((x y : Item) → R x y ≡ item_cmp x y) → IsSorted R xs → IsSorted item_cmp xs
sorted_alike R xs same up k d low below = ap is_lt (sym (same (get_or xs (k + 1) d) (get_or xs k d))) ∙ up k d low below
