-- Which rocks have which items. (This project's own.)
use Rattle.std.specs.Prelude.{◌≡◌, ◌≢◌, ◌↔◌, List, [], ◌∷◌, ◌++◌, Contains, map, if◌then◌else◌}
use Rattle.std.specs.List.{AllByRecursion}
use Rattle.std.specs.Ordering.{is_eq, on}
use Rattle.std.specs.declared.cmp.Ordering.{Ordering}
use Rattle.std.specs.declared.cmp.Ordering.TheVariants.{Less}
use Rattle.rocks_text.specs.Items.{item_cmp}
use Rattle.rocks_text.specs.declared.item.Item.{Item}
use Rattle.rocks_version.specs.Keys.{listing_cmp}
use Rattle.rocks_version.specs.declared.key.RockKey.{RockKey}

-- items, each with the rocks that have it
abbrev pub Entries : Type 0
Entries = List (Item × List RockKey)

-- the rocks that have an item; none where it isn't there
abbrev pub rocks_of : Entries → Item → List RockKey
rocks_of [] item = []
rocks_of (entry ∷ entries) item = if is_eq (item_cmp item entry.0) then entry.1 else rocks_of entries item

-- each one of a list comes before all that follow it
abbrev pub Rises : {X : Type 0} → (X → X → Ordering) → List X → Type 0
Rises order [] = Unit {0}
Rises order (x ∷ xs) = AllByRecursion (λ y. order x y ≡ Less) xs × Rises order xs

-- there are some rocks, in the order in which rocks are listed, each once
abbrev pub AreRocks : List RockKey → Type 0
AreRocks rocks = (rocks ≢ []) × Rises listing_cmp rocks

-- by the items alone
abbrev pub entry_cmp : Item × List RockKey → Item × List RockKey → Ordering
entry_cmp = on (λ entry. entry.0) item_cmp

-- items stand in order, each once and with some rocks
pub record AreListed (entries : Entries) : Type 0 where
  pub items : Rises entry_cmp entries
  pub rocks : AllByRecursion (λ entry. AreRocks entry.1) entries

-- For each item the entries have all rocks that have it, in the order in which rocks are listed. A set is given by pairs
-- of an item and a rock that has it, in any order.
pub record AreProviders (pairs : List (Item × RockKey)) (entries : Entries) : Type 0 where
  pub listed : AreListed entries
  pub all : (item : Item) (key : RockKey) → Contains pairs (item, key) ↔ Contains (rocks_of entries item) key

abbrev pub pair_of : Item → RockKey → Item × RockKey
pair_of item key = (item, key)

-- the pairs of entries: each item with each of its rocks
abbrev pub pairs_in : Entries → List (Item × RockKey)
pairs_in [] = []
pairs_in (entry ∷ entries) = map (pair_of entry.0) entry.1 ++ pairs_in entries

-- the pairs that are left are those but one
abbrev pub AreWithout : Item × RockKey → (pairs left : List (Item × RockKey)) → Type 0
AreWithout pair pairs left = (other : Item × RockKey) → Contains left other ↔ (Contains pairs other × (other ≢ pair))
