-- Items in order are those of each kind in turn.
use Rattle.std.proofs.Common.{◌≡◌, ℕ, List, [], ◌∷◌, ◌++◌, refl, sym, ap, ◌∙◌, ◌<◌, ◌≤◌, true, false, cond, map, arith, lit<, Ordering}
use Rattle.std.specs.List.{AllByRecursion, filter}
use Rattle.std.specs.List.Sorted.{IsStrictlySortedBy}
use Rattle.std.specs.declared.cmp.Ordering.TheVariants.{Less, Equal, Greater}
use Rattle.std.specs.Ordering.{nat_cmp, ordering_then}
use Rattle.std.proofs.lemmas.Bool.{ne_eqb}
use Rattle.std.proofs.lemmas.Cmp.{ranked}
use Rattle.rocks_text.specs.Items.{item_cmp, rank_of}
use Rattle.rocks_text.specs.declared.item.Item.{Item}
use Rattle.rocks_text.specs.declared.item.Kind.{Kind}
use Rattle.rocks_text.specs.declared.item.Kind.TheVariants.{Lua, Lib, Bin}
use Rattle.rock_manifest.specs.Reading.{as_items}
use Rattle.rock_manifest.specs.Records.{AreItemsInOrder}
use Rattle.rock_manifest.specs.Text.{is_kind, of_kind}

abbrev Items : Type 0
Items = List (Item × List ℕ)

-- the items of one kind
abbrev of : Kind → Items → Items
of kind items = as_items kind (of_kind kind items)

abbrev grouped : Items → Items
grouped items = of Lua items ++ of Lib items ++ of Bin items

with : (kind : Kind) (file : Item × List ℕ) (items : Items) → is_kind file.0.kind kind ≡ true
    → of kind (file ∷ items) ≡ (record { kind = kind; path = file.0.path }, file.1) ∷ of kind items
with kind file items is = ap (λ t. as_items kind
    (map (λ f. (f.0.path, f.1)) (cond t (file ∷ filter (λ f. is_kind f.0.kind kind) items)
    (filter (λ f. is_kind f.0.kind kind) items)))) is

without : (kind : Kind) (file : Item × List ℕ) (items : Items) → is_kind file.0.kind kind ≡ false
    → of kind (file ∷ items) ≡ of kind items
without kind file items other = ap
    (λ t. as_items kind (map (λ f. (f.0.path, f.1))
    (cond t (file ∷ filter (λ f. is_kind f.0.kind kind) items) (filter (λ f. is_kind f.0.kind kind) items)))) other

rises : (x y : ℕ) (o p : Ordering) → o ≡ nat_cmp x y → ordering_then o p ≡ Less → x ≤ y
rises x y Less p e h = omega (arith, ranked x y Less e)
rises x y Equal p e h = omega (arith, ranked x y Equal e)
rises x y Greater p e h = absurd (cc h)

no_lower_rank : (item other : Item) → item_cmp item other ≡ Less → rank_of item.kind ≤ rank_of other.kind
no_lower_rank item other less = rises (rank_of item.kind) (rank_of other.kind) _ _ refl less

-- behind an item no item of an earlier kind stands
none_before : (kind : Kind) (item : Item) (items : Items) → rank_of kind < rank_of item.kind
    → AllByRecursion (λ other. item_cmp item other ≡ Less) (map (λ file. file.0) items) → of kind items ≡ []
none_before kind item [] earlier later = refl
none_before kind item (file ∷ items) earlier later =
    let rank = no_lower_rank item file.0 later.0 in
    without kind file items (ne_eqb (rank_of file.0.kind) (rank_of kind) (λ e. omega arith))
    ∙ none_before kind item items earlier later.1

joined : (a b c x y z : Items) → a ≡ x → b ≡ y → c ≡ z → a ++ b ++ c ≡ x ++ y ++ z
joined a b c x y z p q r = cc

step : (kind : Kind) (file : Item × List ℕ) (items : Items) → file.0.kind ≡ kind
    → AllByRecursion (λ other. item_cmp file.0 other ≡ Less) (map (λ f. f.0) items) → grouped items ≡ items
    → grouped (file ∷ items) ≡ file ∷ items
step Lua file items is later again =
    joined _ _ _ _ _ _ (with Lua file items (ap (λ k. is_kind k Lua) is))
    (without Lib file items (ap (λ k. is_kind k Lib) is)) (without Bin file items (ap (λ k. is_kind k Bin) is))
    ∙ ap (λ (l : Items). (record { kind = Lua; path = file.0.path }, file.1) ∷ l) again
    ∙ ap (λ k. (record { kind = k; path = file.0.path }, file.1) ∷ items) (sym is)
step Lib file items is later again =
    let lua = none_before Lua file.0 items (rw is (lit< tt)) later in
    joined _ _ _ _ _ _ (without Lua file items (ap (λ k. is_kind k Lua) is)
    ∙ lua) (with Lib file items (ap (λ k. is_kind k Lib) is))
    (without Bin file items (ap (λ k. is_kind k Bin) is))
    ∙ ap (λ (l : Items). (record { kind = Lib; path = file.0.path }, file.1) ∷ l)
    (sym (joined (of Lua items) (of Lib items) (of Bin items) [] _ _ lua refl refl) ∙ again)
    ∙ ap (λ k. (record { kind = k; path = file.0.path }, file.1) ∷ items) (sym is)
step Bin file items is later again =
    let lua = none_before Lua file.0 items (rw is (lit< tt)) later in
    let lib = none_before Lib file.0 items (rw is (lit< tt)) later in
    joined _ _ _ _ _ _ (without Lua file items (ap (λ k. is_kind k Lua) is)
    ∙ lua) (without Lib file items (ap (λ k. is_kind k Lib) is)
    ∙ lib) (with Bin file items (ap (λ k. is_kind k Bin) is))
    ∙ ap (λ (l : Items). (record { kind = Bin; path = file.0.path }, file.1) ∷ l)
    (sym (joined (of Lua items) (of Lib items) (of Bin items) [] [] _ lua lib refl) ∙ again)
    ∙ ap (λ k. (record { kind = k; path = file.0.path }, file.1) ∷ items) (sym is)

pub grouped_again : (items : Items) → AreItemsInOrder items → grouped items ≡ items
unfolding IsStrictlySortedBy
grouped_again [] sorted = refl
grouped_again (file ∷ items) sorted = step file.0.kind file items refl sorted.0 (grouped_again items sorted.1)
