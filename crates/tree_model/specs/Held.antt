-- How an index changes, and what it keeps beside its rocks. (This project's own.)
use Rattle.std.specs.Prelude.{Bool, not, List, [], ◌∷◌, map, if◌then◌else◌}
use Rattle.std.specs.List.{filter, flat_map, list_any}
use Rattle.std.specs.Ordering.{is_lt}
use Rattle.rocks_text.specs.Items.{item_cmp}
use Rattle.rocks_text.specs.declared.item.Item.{Item}
use Rattle.rocks_version.specs.Keys.{is_before}
use Rattle.rocks_version.specs.declared.key.RockKey.{RockKey}
use Rattle.providers.specs.Lists.{Entries, AreProviders}
use Rattle.tree_claims.specs.Rocks.{is_same_rock}
use Rattle.tree_sets.specs.Sets.{IsIndex}
use Rattle.tree_sets.specs.declared.entry.IndexEntry.{IndexEntry}

-- ---- changes

-- the rock is one of these
abbrev pub is_among : List RockKey → RockKey → Bool
is_among keys key = list_any (is_same_rock key) keys

-- the rocks without some
abbrev pub without : List RockKey → List IndexEntry → List IndexEntry
without removed entries = filter (λ entry. not (is_among removed entry.key)) entries

-- the rocks with one more, which stands before those that it is listed before
abbrev pub with_entry : IndexEntry → List IndexEntry → List IndexEntry
with_entry added [] = added ∷ []
with_entry added (entry ∷ entries) =
    if is_before added.key entry.key then added ∷ entry ∷ entries else entry ∷ with_entry added entries

abbrev pub with_entries : List IndexEntry → List IndexEntry → List IndexEntry
with_entries [] entries = entries
with_entries (added ∷ more) entries = with_entries more (with_entry added entries)

-- the rocks without some and with others
abbrev pub changed : (added : List IndexEntry) (removed : List RockKey) → List IndexEntry → List IndexEntry
changed added removed entries = with_entries added (without removed entries)

-- ---- what is kept

-- each item of a rock with the rock
abbrev pub item_pair : RockKey → Item → Item × RockKey
item_pair key item = (item, key)

abbrev pub pairs_of_entry : IndexEntry → List (Item × RockKey)
pairs_of_entry entry = map (item_pair entry.key) entry.items

abbrev pub pairs_of : List IndexEntry → List (Item × RockKey)
pairs_of entries = flat_map pairs_of_entry entries

-- the item of one goes before that of the other
abbrev pub goes_before : Item × RockKey → Item × RockKey → Bool
goes_before left right = is_lt (item_cmp left.0 right.0)

-- rocks that can stand in a tree, and for each of their items the rocks that have it
pub record IsHeld (entries : List IndexEntry) (providers : Entries) : Type 0 where
  pub index : IsIndex entries
  pub provided : AreProviders (pairs_of entries) providers
