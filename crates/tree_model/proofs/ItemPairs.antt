-- Which pairs of an item and a rock entries have, and that none is there twice.
use Rattle.std.proofs.Common.{◌≡◌, ◌↔◌, ℕ, ◌+◌, ◌<◌, List, [], ◌∷◌, ◌++◌, length, get_or, take, sym, ap, subst, ◌∙◌, true, arith}
use Rattle.std.proofs.lemmas.Cmp.{eq_by_cmp_equiv, on_total, then_total, tied_itself}
use Rattle.std.proofs.lemmas.List.{get_or-take, length-take, take_more}
use Rattle.std.proofs.lemmas.List.Sorted.{ranks_by, Contains-permutation, IsPermutation-sym, IsPermutation-to_front}
use Rattle.std.proofs.lemmas.Map.Keys.{apart_from_distinct, IsDistinct-from_sorted, IsDistinct-IsPermutation}
use Rattle.std.specs.Cmp.{IsStrictWeakOrder, IsTotalOrder}
use Rattle.std.specs.List.{All, Contains, IsDistinct}
use Rattle.std.specs.List.Sorted.{IsPermutation}
use Rattle.std.specs.Ordering.{eq_by_cmp, is_eq, on, ordering_then, then_cmp}
use Rattle.std.specs.declared.cmp.Ordering.{Ordering}
use Rattle.std.specs.declared.cmp.Ordering.TheVariants.{Less}
use Rattle.rocks_text.specs.Items.{item_cmp}
use Rattle.rocks_text.specs.declared.item.Item.{Item}
use Rattle.rocks_version.specs.Keys.{listing_cmp}
use Rattle.rocks_version.specs.declared.key.RockKey.{RockKey}
use Rattle.rocks_version.proofs.OrderLaws.{key_total}
use Rattle.providers.specs.Lists.{Entries, AreProviders, Rises}
use Rattle.providers.proofs.Entries.{items_total}
use Rattle.tree_claims.proofs.Members.{cons_here, cons_behind, flat_contains, flat_from, map_contains, map_from}
use Rattle.tree_sets.specs.Sets.{keys_in, IsEntry, IsIndex}
use Rattle.tree_sets.specs.declared.entry.IndexEntry.{IndexEntry}
use Rattle.tree_model.specs.Held.{goes_before, item_pair, pairs_of, pairs_of_entry}
use Rattle.tree_model.proofs.Rising.{rises_append, rises_if_sorted, rises_mapped, sorted_if_rises}
use Rattle.tree_model.proofs.Rows.{all_at}

pub goes_before_order : IsStrictWeakOrder goes_before
goes_before_order = ranks_by items_total (λ (pair : Item × RockKey). pair.0)

-- ---- members

pub pair_from : (entries : List IndexEntry) (item : Item) (key : RockKey) → Contains (pairs_of entries) (item, key)
    → (entry : IndexEntry) × Contains entries entry × (key ≡ entry.key) × Contains entry.items item
pair_from entries item key has =
    let found = flat_from pairs_of_entry entries (item, key) has in
    let inside = map_from (item_pair found.0.key) found.0.items (item, key) found.2 in (
      found.0,
      found.1,
      ap (λ (p : Item × RockKey). p.1) inside.2,
      subst (λ (i : Item). Contains found.0.items i) (sym (ap (λ (p : Item × RockKey). p.0) inside.2)) inside.1,
    )

pub pair_there : (entries : List IndexEntry) (entry : IndexEntry) (item : Item) → Contains entries entry → Contains entry.items item → Contains (pairs_of entries) (item, entry.key)
pair_there entries entry item among has =
    flat_contains pairs_of_entry entries entry (item, entry.key) among (map_contains (item_pair entry.key) entry.items item has)

-- ---- none twice

-- by the rocks, and those of one rock by the items
abbrev pub pair_cmp : Item × RockKey → Item × RockKey → Ordering
pair_cmp = then_cmp (on (λ pair. pair.1) listing_cmp) (on (λ pair. pair.0) item_cmp)

pair_total : IsTotalOrder pair_cmp
pair_total = then_total (on_total (λ pair. pair.1) key_total) (on_total (λ pair. pair.0) items_total)

of_one_rock : (key : RockKey) (x y : Item) → item_cmp x y ≡ Less → pair_cmp (x, key) (y, key) ≡ Less
of_one_rock key x y less = ap (λ o. ordering_then o (item_cmp x y)) (tied_itself key_total key) ∙ less

of_two_rocks : (x y : Item × RockKey) → listing_cmp x.1 y.1 ≡ Less → pair_cmp x y ≡ Less
of_two_rocks x y less = ap (λ o. ordering_then o (item_cmp x.0 y.0)) less

pairs_rise : (entries : List IndexEntry) → Rises listing_cmp (keys_in entries) → ((entry : IndexEntry) → Contains entries entry → IsEntry entry) → Rises pair_cmp (pairs_of entries)
pairs_rise [] up each = tt
pairs_rise (entry ∷ entries) up each =
    rises_append pair_cmp (pairs_of_entry entry) (pairs_of entries)
    (rises_mapped item_cmp pair_cmp (item_pair entry.key) (of_one_rock entry.key) entry.items (rises_if_sorted item_cmp entry.items (each entry (cons_here entry entries)).items))
    (pairs_rise entries up.1 (λ other has. each other (cons_behind entry entries other has)))
    below
  where
    below : (x y : Item × RockKey) → Contains (pairs_of_entry entry) x → Contains (pairs_of entries) y → pair_cmp x y ≡ Less
    below x y has has_too =
        let mine = map_from (item_pair entry.key) entry.items x has in
        let there = pair_from entries y.0 y.1 has_too in
        let among : Contains (keys_in entries) there.0.key = map_contains (λ (e : IndexEntry). e.key) entries there.0 there.1 in
        let less : listing_cmp entry.key there.0.key ≡ Less = all_at (λ k. listing_cmp entry.key k ≡ Less) (keys_in entries) there.0.key up.0 among in
        of_two_rocks x y (subst (λ (k : RockKey). listing_cmp x.1 k ≡ Less) (sym there.2) (subst (λ (k : RockKey). listing_cmp k there.0.key ≡ Less) (sym (ap (λ (p : Item × RockKey). p.1) mine.2)) less))

each_entry : (entries : List IndexEntry) → All IsEntry entries → (entry : IndexEntry) → Contains entries entry → IsEntry entry
each_entry entries all entry (k, within, is) = subst IsEntry is (all k entry within)

pub distinct_pairs : (entries : List IndexEntry) (pairs : List (Item × RockKey)) → IsIndex entries → IsPermutation (pairs_of entries) pairs → IsDistinct (eq_by_cmp pair_cmp) pairs
distinct_pairs entries pairs index moved =
    IsDistinct-IsPermutation (eq_by_cmp pair_cmp) (λ x y. (eq_by_cmp_equiv pair_total).symm x y) (pairs_of entries) pairs moved
    (IsDistinct-from_sorted pair_cmp (pairs_of entries) (sorted_if_rises pair_cmp (pairs_of entries)
    (pairs_rise entries (rises_if_sorted listing_cmp (keys_in entries) index.listed) (each_entry entries index.each))))

-- a pair is not among those before it
pub not_before : (pairs : List (Item × RockKey)) (i : ℕ) (pair : Item × RockKey) → IsDistinct (eq_by_cmp pair_cmp) pairs → i < length pairs → pair ≡ get_or pairs i pair → Contains (take i pairs) pair → ⊥
not_before pairs i pair distinct within is (k, below, there) =
    let before : k < i = omega (arith, length-take {A = Item × RockKey}) in
    let stands : get_or pairs k pair ≡ pair = sym (get_or-take i pairs k pair before) ∙ there in
    let apart = apart_from_distinct (eq_by_cmp pair_cmp) pairs k i pair distinct before within in
    let tied : eq_by_cmp pair_cmp (get_or pairs k pair) (get_or pairs i pair) ≡ true = (λ j. eq_by_cmp pair_cmp (stands j) (sym is j)) ∙ ap is_eq (tied_itself pair_total pair) in
    let clash = sym tied ∙ apart in
    cc

-- ---- what the providers of pairs depend on

pub same_pairs : (pairs more : List (Item × RockKey)) (listing : Entries) → ((pair : Item × RockKey) → Contains pairs pair ↔ Contains more pair) → AreProviders pairs listing → AreProviders more listing
same_pairs pairs more listing same are = record {
  listed = are.listed;
  all = λ item key. (λ has. (are.all item key).0 ((same (item, key)).1 has), λ has. (same (item, key)).0 ((are.all item key).1 has));
}

pub moved_pairs : (pairs more : List (Item × RockKey)) (listing : Entries) → IsPermutation more pairs → AreProviders pairs listing → AreProviders more listing
moved_pairs pairs more listing moved are =
    same_pairs pairs more listing (λ pair. (Contains-permutation pairs more pair (IsPermutation-sym more pairs moved), Contains-permutation more pairs pair moved)) are

pub one_more : (pairs : List (Item × RockKey)) (i : ℕ) (pair : Item × RockKey) (listing : Entries) → i < length pairs → pair ≡ get_or pairs i pair → AreProviders (pair ∷ take i pairs) listing → AreProviders (take (i + 1) pairs) listing
one_more pairs i pair listing within is are =
    let longer = take_more pairs i pair within ∙ ap (λ (p : Item × RockKey). take i pairs ++ p ∷ []) (sym is) in
    subst (λ (l : List (Item × RockKey)). AreProviders l listing) (sym longer)
    (moved_pairs (pair ∷ take i pairs) (take i pairs ++ pair ∷ []) listing (IsPermutation-to_front (take i pairs) pair) are)
