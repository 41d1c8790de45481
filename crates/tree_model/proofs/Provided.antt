-- What the providers of a set's pairs say is what its rocks say.
use Rattle.std.proofs.Common.{◌≡◌, ◌≢◌, ℕ, List, [], ◌∷◌, length, map, cond, refl, sym, ap, subst, ◌∙◌, Bool, true, false, Some, None, ◌&&◌, arith, ◌++◌, ◌+◌, ◌<◌, ◌≤◌, take, get_or, inl, inr}
use Rattle.std.specs.Prelude.{if◌then◌else◌, slice_get, is_some, T, ◌⊎◌}
use Rattle.std.proofs.lemmas.Cmp.{eq_by_cmp_equiv}
use Rattle.std.proofs.lemmas.List.{append-nil, map-append, take_all, take_more}
use Rattle.std.proofs.lemmas.List.Elements.{filter-append}
use Rattle.std.proofs.lemmas.Option.{get_or_from_slice_get, slice_get_cases, slice_get_within}
use Rattle.std.proofs.lemmas.Map.Views.{Contains-from_any, list_any-from_Contains}
use Rattle.std.specs.FinMap.{FinMap, entries as map_entries, entries_sorted, from_entries, contains_key-keys, get-from_entries}
use Rattle.std.specs.FinMap.Entries.{below_all, is_some-find, is_sorted}
use Rattle.std.specs.List.{filter, flat_map, list_any, AllByRecursion, Contains}
use Rattle.std.specs.List.Sorted.{IsStrictlySortedBy}
use Rattle.std.specs.Ordering.{eq_by_cmp, is_lt}
use Rattle.std.specs.declared.cmp.Ordering.{Ordering}
use Rattle.std.specs.declared.cmp.Ordering.TheVariants.{Less, Equal, Greater}
use Rattle.rocks_text.specs.Items.{item_cmp}
use Rattle.rocks_text.specs.declared.item.Item.{Item}
use Rattle.rocks_text.specs.declared.item.Kind.{Kind}
use Rattle.rocks_version.specs.Keys.{listing_cmp}
use Rattle.rocks_version.specs.declared.key.RockKey.{RockKey}
use Rattle.rocks_version.proofs.OrderLaws.{key_total}
use Rattle.rock_manifest.specs.Text.{is_kind}
use Rattle.providers.specs.Lists.{entry_cmp, rocks_of, AreProviders, Entries, Rises}
use Rattle.providers.proofs.Entries.{entry_if_rocks, items_total, rocks_of_entry, rocks_rise, same_item, some_if_listed}
use Rattle.providers.proofs.Sorted.{one_rising}
use Rattle.tree_claims.proofs.Members.{cons_here, filter_contains, filter_from, flat_contains, flat_from, map_contains, map_from, nil_none}
use Rattle.tree_claims.specs.Rocks.{is_same_rock}
use Rattle.tree_paths.specs.Places.{plain_path, versioned_path}
use Rattle.tree_sets.specs.Places.{has_item, place_among, place_of, providers_of}
use Rattle.tree_sets.specs.Sets.{keys_in, AreListed, IsIndex}
use Rattle.tree_sets.specs.View.{as_key, items_in, provided}
use Rattle.tree_sets.specs.declared.entry.IndexEntry.{IndexEntry}
use Rattle.tree_model.specs.Held.{pairs_of, IsHeld}
use Rattle.tree_model.proofs.ItemPairs.{pair_from, pair_there}
use Rattle.tree_model.proofs.Rising.{rises_filtered, rises_if_sorted, rises_mapped}
use Rattle.tree_model.proofs.Rows.{all_from}

-- ---- the rocks that have an item

item_there : (item : Item) (entry : IndexEntry) → has_item item entry ≡ true → Contains entry.items item
item_there item entry has = Contains-from_any {eq = eq_by_cmp item_cmp} same_item item entry.items has

item_told : (item : Item) (entry : IndexEntry) → Contains entry.items item → has_item item entry ≡ true
item_told item entry has = list_any-from_Contains {eq = eq_by_cmp item_cmp} (eq_by_cmp_equiv items_total) item entry.items has

provider_from : (entries : List IndexEntry) (item : Item) (key : RockKey) → Contains (providers_of entries item) key → Contains (pairs_of entries) (item, key)
provider_from entries item key has =
    let found = map_from (λ (entry : IndexEntry). entry.key) (filter (has_item item) entries) key has in
    let kept = filter_from (has_item item) entries found.0 found.1 in
    subst (λ (k : RockKey). Contains (pairs_of entries) (item, k)) (sym found.2) (pair_there entries found.0 item kept.0 (item_there item found.0 kept.1))

provider_if : (entries : List IndexEntry) (item : Item) (key : RockKey) → Contains (pairs_of entries) (item, key) → Contains (providers_of entries item) key
provider_if entries item key has =
    let found = pair_from entries item key has in
    subst (λ (k : RockKey). Contains (providers_of entries item) k) (sym found.2)
    (map_contains (λ (entry : IndexEntry). entry.key) (filter (has_item item) entries) found.0
    (filter_contains (has_item item) entries found.0 found.1 (item_told item found.0 found.3)))

module _ (entries : List IndexEntry) (listing : Entries) (up : AreListed (keys_in entries)) (are : AreProviders (pairs_of entries) listing) where
  pub same_providers : (item : Item) → rocks_of listing item ≡ providers_of entries item
  same_providers item =
      one_rising key_total (rocks_of listing item) (providers_of entries item) (rocks_rise listing item are.listed.rocks)
      (rises_filtered listing_cmp (λ (entry : IndexEntry). entry.key) (has_item item) entries (rises_if_sorted listing_cmp (keys_in entries) up))
      (λ key. (λ has. provider_if entries item key ((are.all item key).1 has), λ has. (are.all item key).0 (provider_from entries item key has)))

-- ---- the items

less_if : (o : Ordering) → T (is_lt o) → o ≡ Less
less_if Less h = refl
less_if Equal h = absurd h
less_if Greater h = absurd h

both : (a b : Bool) → T (a && b) → T a × T b
both true b h = (tt, h)
both false b h = absurd h

below_if : {K X : Type 0} (cmp : K → K → Ordering) (x : K) (es : List (K × X)) → T (below_all cmp x es) → AllByRecursion (λ y. cmp x y ≡ Less) (map (λ e. e.0) es)
below_if cmp x [] h = tt
below_if cmp x (e ∷ es) h =
    let parts = both (is_lt (cmp x e.0)) (below_all cmp x es) h in
    (less_if (cmp x e.0) parts.0, below_if cmp x es parts.1)

rises_if : {K X : Type 0} (cmp : K → K → Ordering) (es : List (K × X)) → T (is_sorted cmp es) → Rises cmp (map (λ e. e.0) es)
rises_if cmp [] h = tt
rises_if cmp (e ∷ es) h =
    let parts = both (below_all cmp e.0 es) (is_sorted cmp es) h in
    (below_if cmp e.0 es parts.0, rises_if cmp es parts.1)

abbrev each_item : List IndexEntry → List Item
each_item entries = flat_map (λ (entry : IndexEntry). entry.items) entries

abbrev items_map : List IndexEntry → FinMap item_cmp (Unit {0})
items_map entries = from_entries {R = item_cmp} (map as_key (each_item entries))

items_rise : (entries : List IndexEntry) → Rises item_cmp (items_in entries)
items_rise entries = rises_if item_cmp (map_entries (items_map entries)) (entries_sorted (items_map entries))

firsts : (items : List Item) → map (λ e. e.0) (map as_key items) ≡ items
firsts [] = refl
firsts (item ∷ items) = ap (λ (l : List Item). item ∷ l) (firsts items)

same_test : (entries : List IndexEntry) (item : Item) → list_any (eq_by_cmp item_cmp item) (items_in entries) ≡ list_any (eq_by_cmp item_cmp item) (each_item entries)
same_test entries item =
    sym (contains_key-keys (items_map entries) item)
    ∙ ap is_some (get-from_entries items_total (map as_key (each_item entries)) item)
    ∙ is_some-find item_cmp item (map as_key (each_item entries))
    ∙ ap (list_any (eq_by_cmp item_cmp item)) (firsts (each_item entries))

items_from : (entries : List IndexEntry) (item : Item) → Contains (items_in entries) item → Contains (each_item entries) item
items_from entries item has =
    Contains-from_any {eq = eq_by_cmp item_cmp} same_item item (each_item entries)
    (sym (same_test entries item) ∙ list_any-from_Contains {eq = eq_by_cmp item_cmp} (eq_by_cmp_equiv items_total) item (items_in entries) has)

items_have : (entries : List IndexEntry) (item : Item) → Contains (each_item entries) item → Contains (items_in entries) item
items_have entries item has =
    Contains-from_any {eq = eq_by_cmp item_cmp} same_item item (items_in entries)
    (same_test entries item ∙ list_any-from_Contains {eq = eq_by_cmp item_cmp} (eq_by_cmp_equiv items_total) item (each_item entries) has)

some_first : {X : Type 0} (xs : List X) → xs ≢ [] → (x : X) × Contains xs x
some_first [] some = absurd (some refl)
some_first (x ∷ xs) some = (x, cons_here x xs)

not_empty : {X : Type 0} (xs : List X) (x : X) → Contains xs x → xs ≢ []
not_empty {X} xs x has none = nil_none x (subst (λ (l : List X). Contains l x) none has)

module _ (entries : List IndexEntry) (listing : Entries) (are : AreProviders (pairs_of entries) listing) where
  item_listed : (item : Item) → Contains (items_in entries) item → Contains (map (λ e. e.0) listing) item
  item_listed item has =
      let found = flat_from (λ (entry : IndexEntry). entry.items) entries item (items_from entries item has) in
      let rock = (are.all item found.0.key).0 (pair_there entries found.0 item found.1 found.2) in
      map_contains (λ (e : Item × List RockKey). e.0) listing (item, rocks_of listing item) (entry_if_rocks listing item (not_empty (rocks_of listing item) found.0.key rock))

  listed_item : (item : Item) → Contains (map (λ e. e.0) listing) item → Contains (items_in entries) item
  listed_item item has =
      let found = map_from (λ (e : Item × List RockKey). e.0) listing item has in
      let rocks = rocks_of_entry listing found.0 are.listed.items found.1 in
      let some = some_first found.0.1 (some_if_listed listing found.0 are.listed.rocks found.1).0 in
      let rock : Contains (rocks_of listing found.0.0) some.0 = subst (λ (l : List RockKey). Contains l some.0) (sym rocks) some.1 in
      let pair = pair_from entries found.0.0 some.0 ((are.all found.0.0 some.0).1 rock) in
      subst (λ (i : Item). Contains (items_in entries) i) (sym found.2)
      (items_have entries found.0.0 (flat_contains (λ (entry : IndexEntry). entry.items) entries pair.0 found.0.0 pair.1 pair.3))

  same_items : map (λ e. e.0) listing ≡ items_in entries
  same_items =
      one_rising items_total (map (λ e. e.0) listing) (items_in entries) (rises_mapped entry_cmp item_cmp (λ (e : Item × List RockKey). e.0) (λ x y less. less) listing are.listed.items)
      (items_rise entries) (λ item. (listed_item item, item_listed item))

-- ---- what is provided

abbrev with_rocks : (Item → List RockKey) → Item → Item × List RockKey
with_rocks rocks item = (item, rocks item)

split_up : (rocks : Item → List RockKey) (part : Entries) → AllByRecursion (λ e. rocks e.0 ≡ e.1) part → part ≡ map (with_rocks rocks) (map (λ e. e.0) part)
split_up rocks [] all = refl
split_up rocks (e ∷ part) all = λ i. (e.0, sym all.0 i) ∷ split_up rocks part all.1 i

listing_is : (entries : List IndexEntry) (listing : Entries) → AreListed (keys_in entries) → AreProviders (pairs_of entries) listing → listing ≡ map (with_rocks (providers_of entries)) (items_in entries)
listing_is entries listing up are =
    split_up (providers_of entries) listing
    (all_from (λ e. providers_of entries e.0 ≡ e.1) listing (λ e has. sym (same_providers entries listing up are e.0) ∙ rocks_of_entry listing e are.listed.items has))
    ∙ ap (map (with_rocks (providers_of entries))) (same_items entries listing are)

abbrev path_provided : Item × List RockKey → List ℕ × List RockKey
path_provided entry = (entry.0.path, entry.1)

of_kind : (kind : Kind) (rocks : Item → List RockKey) (items : List Item) → map path_provided (filter (λ e. is_kind e.0.kind kind) (map (with_rocks rocks) items))
    ≡ map (λ item. (item.path, rocks item)) (filter (λ item. is_kind item.kind kind) items)
of_kind kind rocks [] = refl
of_kind kind rocks (item ∷ items) =
    elim (is_kind item.kind kind) as (λ b. map path_provided (cond b ((item, rocks item) ∷ filter (λ e. is_kind e.0.kind kind) (map (with_rocks rocks) items)) (filter (λ e. is_kind e.0.kind kind) (map (with_rocks rocks) items)))
    ≡ map (λ (i : Item). (i.path, rocks i)) (cond b (item ∷ filter (λ (i : Item). is_kind i.kind kind) items) (filter (λ (i : Item). is_kind i.kind kind) items))) [
      | true ↦ ap (λ (l : List (List ℕ × List RockKey)). (item.path, rocks item) ∷ l) (of_kind kind rocks items)
      | false ↦ of_kind kind rocks items
    ]

pub provided_is : (kind : Kind) (entries : List IndexEntry) (listing : Entries) → AreListed (keys_in entries) → AreProviders (pairs_of entries) listing
    → map (λ entry. (entry.0.path, entry.1)) (filter (λ entry. is_kind entry.0.kind kind) listing) ≡ provided kind entries
provided_is kind entries listing up are =
    ap (λ (l : Entries). map path_provided (filter (λ e. is_kind e.0.kind kind) l)) (listing_is entries listing up are) ∙ of_kind kind (providers_of entries) (items_in entries)

-- ---- the paths of one kind, as they are walked over

abbrev pub paths_of : Kind → Entries → List (List ℕ × List RockKey)
paths_of kind listing = map (λ entry. (entry.0.path, entry.1)) (filter (λ entry. is_kind entry.0.kind kind) listing)

one_kind : (kind : Kind) (entry : Item × List RockKey) (b : Bool) → b ≡ is_kind entry.0.kind kind → paths_of kind (entry ∷ []) ≡ (if b then (entry.0.path, entry.1) ∷ [] else [])
one_kind kind entry true is = rw (sym is) refl
one_kind kind entry false is = rw (sym is) refl

paths_more : (kind : Kind) (listing : Entries) (at : ℕ) (entry : Item × List RockKey) → Some entry ≡ slice_get listing at → paths_of kind (take (at + 1) listing) ≡ paths_of kind (take at listing) ++ paths_of kind (entry ∷ [])
paths_more kind listing at entry is =
    let test = λ (e : Item × List RockKey). is_kind e.0.kind kind in
    let longer = take_more listing at entry (slice_get_within listing at entry (sym is)) ∙ ap (λ (e : Item × List RockKey). take at listing ++ e ∷ []) (get_or_from_slice_get listing at entry entry (sym is)) in
    ap (paths_of kind) longer ∙ ap (map path_provided) (filter-append test (take at listing) (entry ∷ [])) ∙ map-append path_provided (filter test (take at listing)) (filter test (entry ∷ []))

pub paths_with : (kind : Kind) (listing : Entries) (at : ℕ) (entry : Item × List RockKey) (path : List ℕ) (rocks : List RockKey) (paths new : List (List ℕ × List RockKey)) → Some entry ≡ slice_get listing at
    → true ≡ is_kind entry.0.kind kind → path ≡ entry.0.path → rocks ≡ entry.1 → paths ≡ paths_of kind (take at listing) → new ≡ paths ++ (path, rocks) ∷ [] → new ≡ paths_of kind (take (at + 1) listing)
paths_with kind listing at entry path rocks paths new is of_it same_path same_rocks so_far put =
    put ∙ (λ i. so_far i ++ (same_path i, same_rocks i) ∷ []) ∙ sym (paths_more kind listing at entry is ∙ ap (λ (l : List (List ℕ × List RockKey)). paths_of kind (take at listing) ++ l) (one_kind kind entry true of_it))

pub paths_without : (kind : Kind) (listing : Entries) (at : ℕ) (entry : Item × List RockKey) (paths : List (List ℕ × List RockKey)) → Some entry ≡ slice_get listing at → false ≡ is_kind entry.0.kind kind
    → paths ≡ paths_of kind (take at listing) → paths ≡ paths_of kind (take (at + 1) listing)
paths_without kind listing at entry paths is other so_far =
    so_far ∙ sym (paths_more kind listing at entry is ∙ ap (λ (l : List (List ℕ × List RockKey)). paths_of kind (take at listing) ++ l) (one_kind kind entry false other) ∙ append-nil (paths_of kind (take at listing)))

pub one_further : (listing : Entries) (at : ℕ) (entry : Item × List RockKey) → Some entry ≡ slice_get listing at → at + 1 ≤ length listing
one_further listing at entry is = let within = slice_get_within listing at entry (sym is) in omega arith

pub paths_whole : (kind : Kind) (listing : Entries) (at : ℕ) (paths : List (List ℕ × List RockKey)) → None ≡ slice_get listing at → paths ≡ paths_of kind (take at listing) → paths ≡ paths_of kind listing
paths_whole kind listing at paths is so_far = so_far ∙ ap (paths_of kind) (take_all at listing (at_end (slice_get_cases listing at).1))
  where
    at_end : ((x : Item × List RockKey) × (at < length listing) × (slice_get listing at ≡ Some x) × (get_or listing at x ≡ x)) ⊎ ((length listing ≤ at) × (slice_get listing at ≡ None)) → length listing ≤ at
    at_end (inl found) = let clash = is ∙ found.2 in absurd cc
    at_end (inr past) = past.0

-- ---- places

place_at : (rocks : List RockKey) (first key : RockKey) (item : Item) → Some first ≡ slice_get rocks 0 → place_among rocks key item ≡ (if is_same_rock first key then plain_path item else versioned_path item key)
place_at [] first key item is = absurd cc
place_at (rock ∷ rocks) first key item is = let same : first ≡ rock = cc in rw same refl

place_nowhere : (rocks : List RockKey) (key : RockKey) (item : Item) → None ≡ slice_get rocks 0 → place_among rocks key item ≡ versioned_path item key
place_nowhere [] key item is = refl
place_nowhere (rock ∷ rocks) key item is = absurd cc

-- where a rock's item stands, by the first rock that has it
module _ (entries seen : List IndexEntry) (listing : Entries) (key : RockKey) (item : Item) (same : entries ≡ seen) (held : IsHeld entries listing) where
  rocks_there : rocks_of listing item ≡ providers_of seen item
  rocks_there = same_providers entries listing held.index.listed held.provided item ∙ ap (λ (l : List IndexEntry). providers_of l item) same

  place_by : (first : RockKey) → Some first ≡ slice_get (rocks_of listing item) 0 → place_of seen key item ≡ (if is_same_rock first key then plain_path item else versioned_path item key)
  place_by first is = place_at (providers_of seen item) first key item (is ∙ ap (λ (l : List RockKey). slice_get l 0) rocks_there)

  pub plain_there : (first : RockKey) → Some first ≡ slice_get (rocks_of listing item) 0 → is_same_rock first key ≡ true → place_of seen key item ≡ plain_path item
  plain_there first is mine = place_by first is ∙ rw mine refl

  pub versioned_there : (first : RockKey) → Some first ≡ slice_get (rocks_of listing item) 0 → is_same_rock first key ≡ false → place_of seen key item ≡ versioned_path item key
  versioned_there first is other = place_by first is ∙ rw other refl

  pub nowhere_there : None ≡ slice_get (rocks_of listing item) 0 → place_of seen key item ≡ versioned_path item key
  nowhere_there is = place_nowhere (providers_of seen item) key item (is ∙ ap (λ (l : List RockKey). slice_get l 0) rocks_there)

-- ---- no rocks

no_index : IsIndex []
unfolding IsStrictlySortedBy
no_index = record {
  listed = tt;
  each = λ k d within. absurd (omega arith);
  clean = record { share = λ left right has. absurd (nil_none left has) };
}

nothing_held : IsHeld [] []
nothing_held = record {
  index = no_index;
  provided = record {
    listed = record { items = tt; rocks = tt };
    all = λ item key. (λ has. absurd (nil_none (item, key) has), λ has. absurd (nil_none key has));
  };
}

pub none_held : (entries : List IndexEntry) (listing : Entries) → entries ≡ [] → listing ≡ [] → IsHeld entries listing
none_held entries listing no_entries no_listing =
    subst (λ (l : List IndexEntry). IsHeld l listing) (sym no_entries) (subst (λ (l : Entries). IsHeld [] l) (sym no_listing) nothing_held)
