-- A rock has one clash with a set.
use Rattle.std.proofs.Common.{◌≡◌, ℕ, List, refl, sym, ap, subst, ◌∙◌, true, false, IsTrue, ⊎_elim}
use Rattle.std.specs.Cmp.Lexicographic.{slice_cmp}
use Rattle.std.specs.Ordering.{is_le, nat_cmp, ordering_reverse}
use Rattle.std.specs.declared.cmp.Ordering.{Ordering}
use Rattle.std.specs.declared.cmp.Ordering.TheVariants.{Less, Equal, Greater}
use Rattle.std.proofs.lemmas.Cmp.{nat_list_cmp_total}
use Rattle.rocks_text.specs.Files.{path_cmp}
use Rattle.rocks_text.specs.declared.item.Item.{Item}
use Rattle.rocks_version.specs.Keys.{is_before}
use Rattle.rocks_version.specs.declared.key.RockKey.{RockKey}
use Rattle.rocks_version.proofs.OrderLaws.{listing_connected}
use Rattle.tree_claims.specs.Clashes.{IsBetween, IsClash}
use Rattle.tree_claims.specs.declared.clash.Clash.{Clash}
use Rattle.tree_claims.proofs.PathOrder.{equal_paths}

le_back : (o : Ordering) → is_le o ≡ true → is_le (ordering_reverse o) ≡ true → o ≡ Equal
le_back Less h g = cc
le_back Equal h g = refl
le_back Greater h g = cc

le_both : (x y : List ℕ) → IsTrue (is_le (path_cmp x y)) → IsTrue (is_le (path_cmp y x)) → x ≡ y
le_both x y h g = equal_paths x y (le_back (slice_cmp nat_cmp x y) h (ap is_le (sym (nat_list_cmp_total.antisymm y x)) ∙ g))

le_path : (rocks : List (RockKey × List Item)) (key : RockKey) (items : List Item) (left right : Clash) → IsClash rocks key items left → IsClash rocks key items right → IsTrue (is_le (path_cmp left.path right.path))
le_path rocks key items left right one two =
    subst (λ (p : List ℕ). IsTrue (is_le (path_cmp left.path p))) two.between.at (one.least two.between.mine two.between.other two.between.clashes)

neither_before : (left right : RockKey) → is_before left right ≡ false → is_before right left ≡ false → left ≡ right
neither_before left right h g = ⊎_elim (λ e. e) (⊎_elim (λ t. let clash = sym t ∙ h in absurd cc) (λ t. let clash = sym t ∙ g in absurd cc)) (listing_connected left right)

pub one_clash : (rocks : List (RockKey × List Item)) (key : RockKey) (items : List Item) (left right : Clash) → IsClash rocks key items left → IsClash rocks key items right → left ≡ right
one_clash rocks key items left right one two =
    let paths = le_both left.path right.path (le_path rocks key items left right one two) (le_path rocks key items right left two one) in
    let right_there = subst (λ (p : List ℕ). IsBetween rocks key items p right.other) (sym paths) two.between in
    let left_there = subst (λ (p : List ℕ). IsBetween rocks key items p left.other) paths one.between in
    let others = neither_before left.other right.other (two.first left.other left_there) (one.first right.other right_there) in
    let keys = one.by ∙ sym two.by in
    λ i. record { path = paths i; by = keys i; other = others i }
