-- A set of rocks as the list of its rocks, each with its items. (This project's own.)
use Rattle.std.specs.Prelude.{Bool, not, ◌&&◌, List, [], ◌∷◌, map, filter, if◌then◌else◌, IsTrue}
use Rattle.std.specs.List.{AllByRecursion, Contains}
use Rattle.std.specs.Ordering.{is_gt}
use Rattle.std.specs.Str.{bytes_eq}
use Rattle.rocks_text.specs.Items.{item_cmp}
use Rattle.rocks_text.specs.declared.item.Item.{Item}
use Rattle.rocks_version.specs.Keys.{is_before}
use Rattle.rocks_version.specs.declared.key.RockKey.{RockKey}

-- the rock is one of the set
abbrev pub HasRock : RockKey → List (RockKey × List Item) → Type 0
HasRock key rocks = Contains (map (λ rock. rock.0) rocks) key

-- each rock is listed before all that stand behind it
abbrev pub IsListed : List (RockKey × List Item) → Type 0
IsListed [] = Unit {0}
IsListed (rock ∷ rocks) = AllByRecursion (λ other. IsTrue (is_before rock.0 other.0)) rocks × IsListed rocks

-- the set with a rock, which stands before those that it is listed before
abbrev pub with_rock : RockKey → List Item → List (RockKey × List Item) → List (RockKey × List Item)
with_rock key items [] = (key, items) ∷ []
with_rock key items (rock ∷ rocks) =
    if is_before key rock.0 then (key, items) ∷ rock ∷ rocks else rock ∷ with_rock key items rocks

abbrev pub is_same_rock : RockKey → RockKey → Bool
is_same_rock left right = bytes_eq left.name right.name && bytes_eq left.version right.version

-- the set without a rock
abbrev pub without_rock : RockKey → List (RockKey × List Item) → List (RockKey × List Item)
without_rock key rocks = filter (λ rock. not (is_same_rock rock.0 key)) rocks

-- items in order, and one more
abbrev pub with_item : Item → List Item → List Item
with_item item [] = item ∷ []
with_item item (other ∷ items) =
    if is_gt (item_cmp item other) then other ∷ with_item item items else item ∷ other ∷ items

-- the items in item order
abbrev pub in_item_order : List Item → List Item
in_item_order [] = []
in_item_order (item ∷ items) = with_item item (in_item_order items)
