-- Which rocks have an item, and where each one's file stands: the first rock holds the plain path. (LuaRocks; which rock
-- is the first is this project's own.)
use Rattle.std.specs.Prelude.{ℕ, Bool, List, [], ◌∷◌, map, if◌then◌else◌}
use Rattle.std.specs.List.{filter, list_any}
use Rattle.std.specs.Ordering.{is_eq}
use Rattle.rocks_text.specs.Items.{item_cmp}
use Rattle.rocks_text.specs.declared.item.Item.{Item}
use Rattle.rocks_version.specs.declared.key.RockKey.{RockKey}
use Rattle.tree_claims.specs.Rocks.{is_same_rock}
use Rattle.tree_paths.specs.Places.{plain_path, versioned_path}
use Rattle.tree_sets.specs.declared.entry.IndexEntry.{IndexEntry}

abbrev pub has_item : Item → IndexEntry → Bool
has_item item entry = list_any (λ other. is_eq (item_cmp item other)) entry.items

-- the rocks that have an item, in the order in which they are listed
abbrev pub providers_of : List IndexEntry → Item → List RockKey
providers_of entries item = map (λ entry. entry.key) (filter (has_item item) entries)

-- the first of the providers holds the plain path, and every other one its versioned path
abbrev pub place_among : List RockKey → RockKey → Item → List ℕ
place_among [] key item = versioned_path item key
place_among (first ∷ others) key item = if is_same_rock first key then plain_path item else versioned_path item key

-- where a rock's item stands
abbrev pub place_of : List IndexEntry → RockKey → Item → List ℕ
place_of entries key item = place_among (providers_of entries item) key item
