-- The laws of the orders.
use Rattle.std.proofs.Common.{◌≡◌, ℕ, List, refl, sym, ap, ◌∙◌, true, false, inl, inr, Some, None, Option}
use Rattle.std.specs.Prelude.{◌⊎◌, ◌&&◌, ◌||◌, IsTrue, unwrap_or}
use Rattle.std.specs.declared.cmp.Ordering.{Ordering}
use Rattle.std.specs.declared.cmp.Ordering.TheVariants.{Less, Equal, Greater}
use Rattle.std.specs.Ordering.{is_eq, is_gt, is_le, is_lt, nat_cmp, on, then_cmp, ordering_reverse, ordering_then}
use Rattle.std.specs.Cmp.{IsTotalOrder}
use Rattle.std.specs.Cmp.Lexicographic.{slice_cmp}
use Rattle.std.proofs.lemmas.Cmp.{back_total, nat_cmp_total, nat_list_cmp_total, on_total, then_total, tied_itself, upto}
use Rattle.std.proofs.lemmas.Map.Text.{is_eq-slice_cmp}
use Rattle.std.proofs.lemmas.Slice.Eq.{bytes_eq-Decides}
use Rattle.rocks_version.specs.Components.{components}
use Rattle.rocks_version.specs.Keys.{is_before, listing_cmp}
use Rattle.rocks_version.specs.Orders.{body_cmp, revision_cmp, version_cmp, version_rank}
use Rattle.rocks_version.specs.Texts.{body, has_revision, revision}
use Rattle.rocks_version.specs.declared.key.RockKey.{RockKey}
use Rattle.rocks_version.proofs.Padding.{components_total}

-- ---- any total order

le_no_gt : (o : Ordering) → is_le o ≡ true → is_gt o ≡ false
le_no_gt Less h = refl
le_no_gt Equal h = refl
le_no_gt Greater h = cc

no_gt_le : (o : Ordering) → is_gt o ≡ false → is_le o ≡ true
no_gt_le Less h = refl
no_gt_le Equal h = refl
no_gt_le Greater h = cc

le_back : (o : Ordering) → is_le o ≡ true → is_le (ordering_reverse o) ≡ true → o ≡ Equal
le_back Less h g = cc
le_back Equal h g = refl
le_back Greater h g = cc

le_or_back : (o : Ordering) → (is_le o ≡ true) ⊎ (is_le (ordering_reverse o) ≡ true)
le_or_back Less = inl refl
le_or_back Equal = inl refl
le_or_back Greater = inr refl

lt_less : (o : Ordering) → is_lt o ≡ true → o ≡ Less
lt_less Less h = refl
lt_less Equal h = cc
lt_less Greater h = cc

then_equal : (a b : Ordering) → ordering_then a b ≡ Equal → (a ≡ Equal) × (b ≡ Equal)
then_equal Less b h = cc
then_equal Equal b h = (refl, h)
then_equal Greater b h = cc

then_then : (a b c : Ordering) → ordering_then a (ordering_then b c) ≡ ordering_then (ordering_then a b) c
then_then Less b c = refl
then_then Equal b c = refl
then_then Greater b c = refl

then_reverse : (a b : Ordering) → ordering_then (ordering_reverse a) (ordering_reverse b) ≡ ordering_reverse (ordering_then a b)
then_reverse Less b = refl
then_reverse Equal b = refl
then_reverse Greater b = refl

module _ {K : Type 0} {R : K → K → Ordering} (o : IsTotalOrder R) where
  le_chain : (x y z : K) → is_le (R x y) ≡ true → is_le (R y z) ≡ true → is_le (R x z) ≡ true
  le_chain x y z h g = no_gt_le (R x z) (upto o x y z (le_no_gt (R x y) h) (le_no_gt (R y z) g))

  le_both : (x y : K) → is_le (R x y) ≡ true → is_le (R y x) ≡ true → R x y ≡ Equal
  le_both x y h g = le_back (R x y) h (rw (o.antisymm y x) at g)

  le_total : (x y : K) → (is_le (R x y) ≡ true) ⊎ (is_le (R y x) ≡ true)
  le_total x y = rw (o.antisymm y x) (le_or_back (R x y))

-- ---- rank

body_total : IsTotalOrder body_cmp
body_total = on_total (λ text. components (body text)) components_total

rank_total : IsTotalOrder version_rank
unfolding version_rank
rank_total = then_total body_total (then_total (on_total (λ text. unwrap_or (revision text) 0) nat_cmp_total) nat_list_cmp_total)

bytes_equal : (x y : List ℕ) → slice_cmp nat_cmp x y ≡ Equal → x ≡ y
bytes_equal x y e = (bytes_eq-Decides x y).0 (sym (is_eq-slice_cmp x y) ∙ ap is_eq e)

rank_equal : (x y : List ℕ) → version_rank x y ≡ Equal → x ≡ y
unfolding version_rank
rank_equal x y e =
    let behind = (then_equal (body_cmp x y) _ e).1 in
    bytes_equal x y (then_equal (nat_cmp (unwrap_or (revision x) 0) (unwrap_or (revision y) 0)) (slice_cmp nat_cmp x y) behind).1

pub rank_reflexive : (text : List ℕ) → version_rank text text ≡ Equal
rank_reflexive text = tied_itself rank_total text

pub rank_antisymmetric : (left right : List ℕ) → IsTrue (is_le (version_rank left right)) → IsTrue (is_le (version_rank right left)) → left ≡ right
rank_antisymmetric left right h g = rank_equal left right (le_both rank_total left right h g)

pub rank_transitive : (left middle right : List ℕ) → IsTrue (is_le (version_rank left middle)) → IsTrue (is_le (version_rank middle right)) → IsTrue (is_le (version_rank left right))
rank_transitive left middle right h g = le_chain rank_total left middle right h g

pub rank_total_law : (left right : List ℕ) → IsTrue (is_le (version_rank left right)) ⊎ IsTrue (is_le (version_rank right left))
rank_total_law left right = le_total rank_total left right

-- ---- the comparison

revised_cmp : List ℕ → List ℕ → Ordering
revised_cmp = then_cmp body_cmp (on (λ text. unwrap_or (revision text) 0) nat_cmp)

revised_total : IsTotalOrder revised_cmp
unfolding revised_cmp
revised_total = then_total body_total (on_total (λ text. unwrap_or (revision text) 0) nat_cmp_total)

version_cmp_revised : (x y : List ℕ) → has_revision x ≡ true → has_revision y ≡ true → version_cmp x y ≡ revised_cmp x y
unfolding version_cmp revised_cmp revision
version_cmp_revised x y h g = rw (h, g) refl

revision_itself : (o : Option ℕ) → revision_cmp o o ≡ Equal
revision_itself None = refl
revision_itself (Some n) = tied_itself nat_cmp_total n

revision_reversed : (o p : Option ℕ) → revision_cmp p o ≡ ordering_reverse (revision_cmp o p)
revision_reversed None None = refl
revision_reversed None (Some n) = refl
revision_reversed (Some m) None = refl
revision_reversed (Some m) (Some n) = nat_cmp_total.antisymm n m

pub cmp_reflexive : (text : List ℕ) → version_cmp text text ≡ Equal
unfolding version_cmp
cmp_reflexive text = rw (tied_itself components_total (components (body text))) (revision_itself (revision text))

pub cmp_reversed : (left right : List ℕ) → version_cmp right left ≡ ordering_reverse (version_cmp left right)
unfolding version_cmp
cmp_reversed left right =
    rw (components_total.antisymm (components (body right)) (components (body left)), revision_reversed (revision left) (revision right))
    (then_reverse (body_cmp left right) (revision_cmp (revision left) (revision right)))

pub cmp_transitive : (left middle right : List ℕ) → IsTrue (has_revision left) → IsTrue (has_revision middle) → IsTrue (has_revision right)
    → IsTrue (is_le (version_cmp left middle)) → IsTrue (is_le (version_cmp middle right)) → IsTrue (is_le (version_cmp left right))
cmp_transitive left middle right l m r h g =
    rw (version_cmp_revised left right l r) (le_chain revised_total left middle right (rw (version_cmp_revised left middle l m) at h) (rw (version_cmp_revised middle right m r) at g))

pub rank_refined : (left right : List ℕ) → IsTrue (has_revision left) → IsTrue (has_revision right) → version_rank left right ≡ ordering_then (version_cmp left right) (slice_cmp nat_cmp left right)
unfolding version_rank revised_cmp
rank_refined left right l r =
    rw (version_cmp_revised left right l r)
    (then_then (body_cmp left right) (nat_cmp (unwrap_or (revision left) 0) (unwrap_or (revision right) 0)) (slice_cmp nat_cmp left right))

-- ---- the listing

pub key_total : IsTotalOrder listing_cmp
unfolding listing_cmp
key_total = then_total (on_total (λ key. key.name) nat_list_cmp_total) (back_total (on_total (λ key. key.version) rank_total))

listed : (names versions back : Ordering) → back ≡ ordering_reverse versions → (is_lt names || (is_eq names && is_gt versions)) ≡ is_lt (ordering_then names back)
listed Less versions back h = refl
listed Equal Less back h = rw h refl
listed Equal Equal back h = rw h refl
listed Equal Greater back h = rw h refl
listed Greater versions back h = refl

pub is_before_is : (left right : RockKey) → is_before left right ≡ is_lt (listing_cmp left right)
unfolding is_before listing_cmp
is_before_is left right =
    listed (slice_cmp nat_cmp left.name right.name) (version_rank left.version right.version) (version_rank right.version left.version) (rank_total.antisymm right.version left.version)

pub listing_irreflexive : (key : RockKey) → is_before key key ≡ false
listing_irreflexive key = is_before_is key key ∙ ap is_lt (tied_itself key_total key)

pub listing_transitive : (first second third : RockKey) → IsTrue (is_before first second) → IsTrue (is_before second third) → IsTrue (is_before first third)
listing_transitive first second third h g =
    let less = lt_less (listing_cmp first second) (rw (is_before_is first second) at h) in
    let less_too = lt_less (listing_cmp second third) (rw (is_before_is second third) at g) in
    is_before_is first third ∙ ap is_lt (key_total.trans first second third less less_too)

reverse_less : (o : Ordering) → o ≡ Less → is_lt (ordering_reverse o) ≡ false
reverse_less o h = rw h refl

pub listing_asymmetric : (left right : RockKey) → IsTrue (is_before left right) → is_before right left ≡ false
listing_asymmetric left right h =
    let less = lt_less (listing_cmp left right) (rw (is_before_is left right) at h) in
    is_before_is right left ∙ ap is_lt (key_total.antisymm right left) ∙ reverse_less (listing_cmp left right) less

pub key_equal : (left right : RockKey) → listing_cmp left right ≡ Equal → left ≡ right
unfolding listing_cmp
key_equal left right e =
    let parts = then_equal (slice_cmp nat_cmp left.name right.name) (version_rank right.version left.version) e in
    let names = bytes_equal left.name right.name parts.0 in
    let versions = sym (rank_equal right.version left.version parts.1) in
    λ i. record { name = names i; version = versions i }

connected_by : (left right : RockKey) (o : Ordering) → listing_cmp left right ≡ o → (left ≡ right) ⊎ (IsTrue (is_before left right) ⊎ IsTrue (is_before right left))
connected_by left right Less h = inr (inl (is_before_is left right ∙ ap is_lt h))
connected_by left right Equal h = inl (key_equal left right h)
connected_by left right Greater h = inr (inr (is_before_is right left ∙ ap is_lt (key_total.antisymm right left ∙ ap ordering_reverse h)))

pub listing_connected : (left right : RockKey) → (left ≡ right) ⊎ (IsTrue (is_before left right) ⊎ IsTrue (is_before right left))
listing_connected left right = connected_by left right (listing_cmp left right) refl
