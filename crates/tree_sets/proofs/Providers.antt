-- The rocks that have an item, and the items that some rock has.
use Rattle.std.proofs.Common.{◌≡◌, List, [], ◌∷◌, map, refl, sym, ap, subst, ◌∙◌, is_some}
use Rattle.std.specs.Prelude.{filter}
use Rattle.std.specs.List.{flat_map, Contains, list_any}
use Rattle.std.specs.FinMap.{contains_key-keys, from_entries, get-from_entries}
use Rattle.std.specs.FinMap.Entries.{is_some-find}
use Rattle.std.specs.Ordering.{is_eq}
use Rattle.rocks_text.specs.Items.{item_cmp}
use Rattle.rocks_text.specs.declared.item.Item.{Item}
use Rattle.rock_manifest.proofs.Orders.{item_total}
use Rattle.rocks_version.proofs.OrderLaws.{key_total}
use Rattle.rocks_version.specs.Keys.{listing_cmp}
use Rattle.rocks_version.specs.declared.key.RockKey.{RockKey}
use Rattle.tree_claims.proofs.Members.{filter_contains, filter_from, flat_contains, flat_from, map_contains, map_from}
use Rattle.tree_sets.proofs.ItemTests.{finds_item, found_item}
use Rattle.tree_sets.proofs.SortedLists.{filter_sorted}
use Rattle.tree_sets.specs.Places.{has_item, providers_of}
use Rattle.tree_sets.specs.Sets.{keys_in, AreListed}
use Rattle.tree_sets.specs.View.{as_key, items_in}
use Rattle.tree_sets.specs.declared.entry.IndexEntry.{IndexEntry}

pub provider_from : (entries : List IndexEntry) (item : Item) (key : RockKey) → Contains (providers_of entries item) key
    → (entry : IndexEntry) × Contains entries entry × (entry.key ≡ key) × Contains entry.items item
provider_from entries item key among =
    let found = map_from (λ (entry : IndexEntry). entry.key) (filter (has_item item) entries) key among in
    let passed = filter_from (has_item item) entries found.0 found.1 in
    (found.0, passed.0, sym found.2, found_item item found.0.items passed.1)

pub provider_in : (entries : List IndexEntry) (item : Item) (entry : IndexEntry) → Contains entries entry → Contains entry.items item
    → Contains (providers_of entries item) entry.key
provider_in entries item entry among has =
    map_contains (λ (e : IndexEntry). e.key) (filter (has_item item) entries) entry
    (filter_contains (has_item item) entries entry among (finds_item item entry.items has))

pub provider_with : (entries : List IndexEntry) (item : Item) (key : RockKey)
    → ((entry : IndexEntry) × Contains entries entry × (entry.key ≡ key) × Contains entry.items item) → Contains (providers_of entries item) key
provider_with entries item key found =
    subst (λ (k : RockKey). Contains (providers_of entries item) k) found.2 (provider_in entries item found.0 found.1 found.3)

pub providers_listed : (entries : List IndexEntry) (item : Item) → AreListed (keys_in entries) → AreListed (providers_of entries item)
providers_listed entries item listed = filter_sorted listing_cmp key_total (λ (entry : IndexEntry). entry.key) (has_item item) entries listed

-- ---- the items of all rocks

abbrev all_items : List IndexEntry → List Item
all_items entries = flat_map (λ entry. entry.items) entries

keys_of_items : (items : List Item) → map (λ e. e.0) (map as_key items) ≡ items
keys_of_items [] = refl
keys_of_items (item ∷ items) = ap (λ l. item ∷ l) (keys_of_items items)

-- a test finds an item among the keys of the map exactly where it does among the items
found_alike : (entries : List IndexEntry) (item : Item)
    → list_any (λ other. is_eq (item_cmp item other)) (items_in entries) ≡ list_any (λ other. is_eq (item_cmp item other)) (all_items entries)
found_alike entries item =
    sym (contains_key-keys (from_entries {R = item_cmp} (map as_key (all_items entries))) item)
    ∙ ap is_some (get-from_entries item_total (map as_key (all_items entries)) item)
    ∙ is_some-find item_cmp item (map as_key (all_items entries))
    ∙ ap (list_any (λ other. is_eq (item_cmp item other))) (keys_of_items (all_items entries))

pub item_from : (entries : List IndexEntry) (item : Item) → Contains (items_in entries) item → (entry : IndexEntry) × Contains entries entry × Contains entry.items item
item_from entries item among =
    flat_from (λ (entry : IndexEntry). entry.items) entries item
    (found_item item (all_items entries) (sym (found_alike entries item) ∙ finds_item item (items_in entries) among))

pub item_with : (entries : List IndexEntry) (item : Item) → ((entry : IndexEntry) × Contains entries entry × Contains entry.items item) → Contains (items_in entries) item
item_with entries item found =
    found_item item (items_in entries) (found_alike entries item ∙ finds_item item (all_items entries)
    (flat_contains (λ (entry : IndexEntry). entry.items) entries found.0 item found.1 found.2))
