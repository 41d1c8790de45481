-- Items that a test by their order finds.
use Rattle.std.proofs.Common.{◌≡◌, Bool, true, false, ◌||◌, List, [], ◌∷◌, refl, sym, ap, subst, ⊎_elim, Ordering}
use Rattle.std.proofs.lemmas.Cmp.{tied_itself}
use Rattle.std.specs.List.{Contains, list_any}
use Rattle.std.specs.Ordering.{is_eq, ordering_then}
use Rattle.std.specs.declared.cmp.Ordering.TheVariants.{Less, Equal, Greater}
use Rattle.rocks_text.specs.Files.{path_cmp}
use Rattle.rocks_text.specs.Items.{item_cmp, kind_cmp}
use Rattle.rocks_text.specs.declared.item.Item.{Item}
use Rattle.rocks_text.specs.declared.item.Kind.{Kind}
use Rattle.rocks_text.specs.declared.item.Kind.TheVariants.{Lua, Lib, Bin}
use Rattle.rock_manifest.proofs.Orders.{item_total}
use Rattle.tree_claims.proofs.Members.{cons_behind, cons_cases, cons_here, nil_none}
use Rattle.tree_claims.proofs.PathOrder.{equal_paths}

kind_equal : (left right : Kind) → kind_cmp left right ≡ Equal → left ≡ right
kind_equal Lua Lua e = refl
kind_equal Lua Lib e = cc
kind_equal Lua Bin e = cc
kind_equal Lib Lua e = cc
kind_equal Lib Lib e = refl
kind_equal Lib Bin e = cc
kind_equal Bin Lua e = cc
kind_equal Bin Lib e = cc
kind_equal Bin Bin e = refl

then_equal : (a b : Ordering) → ordering_then a b ≡ Equal → (a ≡ Equal) × (b ≡ Equal)
then_equal Less b h = cc
then_equal Equal b h = (refl, h)
then_equal Greater b h = cc

-- items that the order takes as equal are equal
pub item_equal : (left right : Item) → item_cmp left right ≡ Equal → left ≡ right
item_equal left right e =
    let parts = then_equal (kind_cmp left.kind right.kind) (path_cmp left.path right.path) e in
    let kinds = kind_equal left.kind right.kind parts.0 in
    let paths = equal_paths left.path right.path parts.1 in
    λ i. record { kind = kinds i; path = paths i }

is_equal : (o : Ordering) → is_eq o ≡ true → o ≡ Equal
is_equal Less h = cc
is_equal Equal h = refl
is_equal Greater h = cc

pub tied_item : (left right : Item) → is_eq (item_cmp left right) ≡ true → left ≡ right
tied_item left right h = item_equal left right (is_equal (item_cmp left right) h)

or_here : (a b : Bool) → a ≡ true → (a || b) ≡ true
or_here true b h = refl
or_here false b h = cc

or_there : (a b : Bool) → b ≡ true → (a || b) ≡ true
or_there true b h = refl
or_there false b h = h

pub found_item : (item : Item) (items : List Item) → list_any (λ other. is_eq (item_cmp item other)) items ≡ true → Contains items item
found_item item [] h = cc
found_item item (x ∷ items) h =
    elim (is_eq (item_cmp item x)) as (λ b. is_eq (item_cmp item x) ≡ b → (b || list_any (λ other. is_eq (item_cmp item other)) items) ≡ true → Contains (x ∷ items) item) [
      | true ↦ λ is _. subst (λ (z : Item). Contains (x ∷ items) z) (sym (tied_item item x is)) (cons_here x items)
      | false ↦ λ _ more. cons_behind x items item (found_item item items more)
    ] refl h

pub finds_item : (item : Item) (items : List Item) → Contains items item → list_any (λ other. is_eq (item_cmp item other)) items ≡ true
finds_item item [] has = absurd (nil_none item has)
finds_item item (x ∷ items) has =
    ⊎_elim
    (λ e. or_here (is_eq (item_cmp item x)) (list_any (λ other. is_eq (item_cmp item other)) items)
    (ap is_eq (subst (λ (z : Item). item_cmp item z ≡ Equal) (sym e) (tied_itself item_total item))))
    (λ more. or_there (is_eq (item_cmp item x)) (list_any (λ other. is_eq (item_cmp item other)) items) (finds_item item items more))
    (cons_cases x items item has)
