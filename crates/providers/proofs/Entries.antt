-- The rocks of each item in entries, and what a change of one entry does to them.
use Rattle.std.proofs.Common.{ℕ, ◌≡◌, ◌≢◌, ◌⊎◌, ◌↔◌, inl, inr, List, [], ◌∷◌, ◌++◌, refl, sym, ap, ◌∙◌, subst, Bool, true, false}
use Rattle.std.specs.Prelude.{Contains, if◌then◌else◌}
use Rattle.std.specs.List.{AllByRecursion}
use Rattle.std.specs.Cmp.{IsTotalOrder}
use Rattle.std.specs.Cmp.Lexicographic.{slice_cmp}
use Rattle.std.specs.Ordering.{is_eq, nat_cmp, ordering_then}
use Rattle.std.specs.declared.cmp.Ordering.{Ordering}
use Rattle.std.specs.declared.cmp.Ordering.TheVariants.{Less, Equal, Greater}
use Rattle.std.proofs.lemmas.Cmp.{nat_cmp_total, nat_list_cmp_total, on_total, then_total, tied_itself}
use Rattle.std.proofs.lemmas.Map.Text.{is_eq-slice_cmp}
use Rattle.std.proofs.lemmas.Slice.Eq.{bytes_eq-Decides}
use Rattle.rocks_text.specs.Files.{path_cmp}
use Rattle.rocks_text.specs.Items.{item_cmp, kind_cmp, rank_of}
use Rattle.rocks_text.specs.declared.item.Item.{Item}
use Rattle.rocks_text.specs.declared.item.Kind.{Kind}
use Rattle.rocks_text.specs.declared.item.Kind.TheVariants.{Lua, Lib, Bin}
use Rattle.rocks_version.specs.Keys.{listing_cmp}
use Rattle.rocks_version.specs.declared.key.RockKey.{RockKey}
use Rattle.rocks_version.proofs.OrderLaws.{key_total}
use Rattle.std.proofs.lemmas.List.Elements.{Contains-append_cases, Contains-append_left, Contains-append_right}
use Rattle.std.proofs.Common.{map}
use Rattle.providers.specs.Lists.{pair_of, pairs_in, Entries, rocks_of, Rises, AreRocks, AreListed, AreProviders, entry_cmp}
use Rattle.providers.proofs.Sorted.{Under, Over, turned, contains_first, contains_nothing, contains_cases, contains_later, all_put, all_cut, all_contained, put_rises, cut_rises, one_rising}

-- ---- the order of items

pub items_total : IsTotalOrder item_cmp
items_total = then_total (on_total (λ item. item.kind) (on_total rank_of nat_cmp_total)) (on_total (λ item. item.path) nat_list_cmp_total)

pub entries_total : IsTotalOrder entry_cmp
entries_total = on_total (λ entry. entry.0) items_total

then_equal : (a b : Ordering) → ordering_then a b ≡ Equal → (a ≡ Equal) × (b ≡ Equal)
then_equal Less b h = cc
then_equal Equal b h = (refl, h)
then_equal Greater b h = cc

bytes_equal : (x y : List ℕ) → slice_cmp nat_cmp x y ≡ Equal → x ≡ y
bytes_equal x y e = (bytes_eq-Decides x y).0 (sym (is_eq-slice_cmp x y) ∙ ap is_eq e)

kinds_equal : (x y : Kind) → kind_cmp x y ≡ Equal → x ≡ y
kinds_equal Lua Lua e = refl
kinds_equal Lua Lib e = cc
kinds_equal Lua Bin e = cc
kinds_equal Lib Lua e = cc
kinds_equal Lib Lib e = refl
kinds_equal Lib Bin e = cc
kinds_equal Bin Lua e = cc
kinds_equal Bin Lib e = cc
kinds_equal Bin Bin e = refl

pub items_equal : (x y : Item) → item_cmp x y ≡ Equal → x ≡ y
items_equal x y e =
    let parts = then_equal (kind_cmp x.kind y.kind) (path_cmp x.path y.path) e in
    let kinds = kinds_equal x.kind y.kind parts.0 in
    let paths = bytes_equal x.path y.path parts.1 in
    λ i. record { kind = kinds i; path = paths i }

pub same_item : (x y : Item) → is_eq (item_cmp x y) ≡ true → x ≡ y
same_item x y e = items_equal x y (by (item_cmp x y) e)
  where
    by : (o : Ordering) → is_eq o ≡ true → o ≡ Equal
    by Less h = cc
    by Equal h = refl
    by Greater h = cc

is_itself : (x : Item) → is_eq (item_cmp x x) ≡ true
is_itself x = ap is_eq (tied_itself items_total x)

-- ---- the rocks of an item

not_eq_less : (o : Ordering) → o ≡ Less → is_eq o ≡ false
not_eq_less o e = rw e refl

not_eq_greater : (o : Ordering) → o ≡ Greater → is_eq o ≡ false
not_eq_greater o e = rw e refl

past : (e : Item × List RockKey) (es : Entries) (item : Item) → is_eq (item_cmp item e.0) ≡ false → rocks_of (e ∷ es) item ≡ rocks_of es item
past e es item h = rw h refl

here : (e : Item × List RockKey) (es : Entries) (item : Item) → is_eq (item_cmp item e.0) ≡ true → rocks_of (e ∷ es) item ≡ e.1
here e es item h = rw h refl

-- where an item's own entry stands
pub rocks_at : (f : Entries) (e : Item × List RockKey) (b : Entries) → Under entries_total f e → rocks_of (f ++ e ∷ b) e.0 ≡ e.1
rocks_at [] e b under = here e b e.0 (is_itself e.0)
rocks_at (x ∷ f) e b under = past x (f ++ e ∷ b) e.0 (not_eq_greater _ (turned entries_total x e under.0)) ∙ rocks_at f e b under.1

-- where it has none
no_rocks_behind : (b : Entries) (e : Item × List RockKey) → Over entries_total b e → rocks_of b e.0 ≡ []
no_rocks_behind [] e over = refl
no_rocks_behind (x ∷ b) e over = past x b e.0 (not_eq_less _ over.0) ∙ no_rocks_behind b e over.1

pub no_rocks : (f : Entries) (e : Item × List RockKey) (b : Entries) → Under entries_total f e → Over entries_total b e → rocks_of (f ++ b) e.0 ≡ []
no_rocks [] e b under over = no_rocks_behind b e over
no_rocks (x ∷ f) e b under over = past x (f ++ b) e.0 (not_eq_greater _ (turned entries_total x e under.0)) ∙ no_rocks f e b under.1 over

-- another item's rocks
pub rocks_beside : (f : Entries) (e : Item × List RockKey) (b : Entries) (other : Item) → is_eq (item_cmp other e.0) ≡ false → rocks_of (f ++ e ∷ b) other ≡ rocks_of (f ++ b) other
rocks_beside [] e b other h = past e b other h
rocks_beside (x ∷ f) e b other h =
    elim (is_eq (item_cmp other x.0)) as (λ t. (if t then x.1 else rocks_of (f ++ e ∷ b) other) ≡ (if t then x.1 else rocks_of (f ++ b) other)) [
      | true ↦ refl
      | false ↦ rocks_beside f e b other h
    ]

-- ---- a change of one entry

-- an item's entry, which is none where it has no rocks
abbrev pub entry_of : Item → List RockKey → Entries
entry_of item [] = []
entry_of item (rock ∷ rocks) = (item, rock ∷ rocks) ∷ []

some_rocks : (rock : RockKey) (rocks : List RockKey) → (rock ∷ rocks) ≢ []
some_rocks rock rocks e = cc

module _ (f : Entries) (item : Item) (b : Entries) (under : Under entries_total f (item, [])) (over : Over entries_total b (item, [])) where
  pub rocks_there : (rocks : List RockKey) → rocks_of (f ++ (entry_of item rocks ++ b)) item ≡ rocks
  rocks_there [] = no_rocks f (item, []) b under over
  rocks_there (rock ∷ rocks) = rocks_at f (item, rock ∷ rocks) b under

  pub rocks_elsewhere : (rocks : List RockKey) (other : Item) → is_eq (item_cmp other item) ≡ false → rocks_of (f ++ (entry_of item rocks ++ b)) other ≡ rocks_of (f ++ b) other
  rocks_elsewhere [] other h = refl
  rocks_elsewhere (rock ∷ rocks) other h = rocks_beside f (item, rock ∷ rocks) b other h

  pub listed_with : (rocks : List RockKey) → AreListed (f ++ b) → Rises listing_cmp rocks → AreListed (f ++ (entry_of item rocks ++ b))
  listed_with [] listed up = listed
  listed_with (rock ∷ rocks) listed up = record {
    items = put_rises entries_total f (item, rock ∷ rocks) b listed.items under over;
    rocks = all_put (λ entry. AreRocks entry.1) f (item, rock ∷ rocks) b listed.rocks (some_rocks rock rocks, up);
  }

  pub listed_without : (rocks : List RockKey) → AreListed (f ++ (entry_of item rocks ++ b)) → AreListed (f ++ b)
  listed_without [] listed = listed
  listed_without (rock ∷ rocks) listed = record {
    items = cut_rises entries_total f (item, rock ∷ rocks) b listed.items;
    rocks = all_cut (λ entry. AreRocks entry.1) f (item, rock ∷ rocks) b listed.rocks;
  }

  -- with other rocks for the item, the entries are the providers of what has these rocks and is the same elsewhere
  pub changed : (pairs more : List (Item × RockKey)) (rocks now : List RockKey) → AreProviders pairs (f ++ (entry_of item rocks ++ b)) → Rises listing_cmp now
      → ((key : RockKey) → Contains more (item, key) ↔ Contains now key) → ((other : Item) (key : RockKey) → other ≢ item → Contains more (other, key) ↔ Contains pairs (other, key))
      → AreProviders more (f ++ (entry_of item now ++ b))
  changed pairs more rocks now old up there elsewhere = record {
    listed = listed_with now (listed_without rocks old.listed) up;
    all = λ other key. by other key (is_eq (item_cmp other item)) refl;
  }
    where
      by : (other : Item) (key : RockKey) (t : Bool) → is_eq (item_cmp other item) ≡ t → Contains more (other, key) ↔ Contains (rocks_of (f ++ (entry_of item now ++ b)) other) key
      by other key true e =
          let same : other ≡ item = same_item other item e in
          let these : rocks_of (f ++ (entry_of item now ++ b)) other ≡ now = ap (rocks_of (f ++ (entry_of item now ++ b))) same ∙ rocks_there now in (
            λ has. subst (λ l. Contains l key) (sym these) ((there key).0 (subst (λ i. Contains more (i, key)) same has)),
            λ has. subst (λ i. Contains more (i, key)) (sym same) ((there key).1 (subst (λ l. Contains l key) these has)),
          )
      by other key false e =
          let apart : other ≢ item = λ same. not_same same in
          let before : rocks_of (f ++ (entry_of item rocks ++ b)) other ≡ rocks_of (f ++ b) other = rocks_elsewhere rocks other e in
          let after : rocks_of (f ++ (entry_of item now ++ b)) other ≡ rocks_of (f ++ b) other = rocks_elsewhere now other e in
          let rocks_same : rocks_of (f ++ (entry_of item rocks ++ b)) other ≡ rocks_of (f ++ (entry_of item now ++ b)) other = before ∙ sym after in (
            λ has. subst (λ l. Contains l key) rocks_same ((old.all other key).0 ((elsewhere other key apart).0 has)),
            λ has. (elsewhere other key apart).1 ((old.all other key).1 (subst (λ l. Contains l key) (sym rocks_same) has)),
          )
        where
          not_same : other ≡ item → ⊥
          not_same same =
              let tied : is_eq (item_cmp other item) ≡ true = subst (λ i. is_eq (item_cmp other i) ≡ true) same (is_itself other) in
              cc

-- ---- one list

pub some_if_listed : (entries : Entries) (e : Item × List RockKey) → AllByRecursion (λ entry. AreRocks entry.1) entries → Contains entries e → AreRocks e.1
some_if_listed entries e all has = all_contained (λ entry. AreRocks entry.1) entries e all has

-- an entry that is there has its item's rocks
pub rocks_of_entry : (entries : Entries) (e : Item × List RockKey) → Rises entry_cmp entries → Contains entries e → rocks_of entries e.0 ≡ e.1
rocks_of_entry [] e up has = absurd (contains_nothing e has)
rocks_of_entry (x ∷ entries) e up has = by (rocks_of_entry entries e up.1) (contains_cases x entries e has)
  where
    by : (Contains entries e → rocks_of entries e.0 ≡ e.1) → (e ≡ x) ⊎ Contains entries e → rocks_of (x ∷ entries) e.0 ≡ e.1
    by rest (inl same) = here x entries e.0 (subst (λ y. is_eq (item_cmp e.0 y.0) ≡ true) same (is_itself e.0)) ∙ ap (λ y. y.1) (sym same)
    by rest (inr later) =
        let less : entry_cmp x e ≡ Less = all_contained (λ y. entry_cmp x y ≡ Less) entries e up.0 later in
        past x entries e.0 (not_eq_greater _ (turned entries_total x e less)) ∙ rest later

-- an item that has rocks has an entry
pub entry_if_rocks : (entries : Entries) (item : Item) → rocks_of entries item ≢ [] → Contains entries (item, rocks_of entries item)
entry_if_rocks [] item some = absurd (some refl)
entry_if_rocks (x ∷ entries) item some = by (entry_if_rocks entries item) (is_eq (item_cmp item x.0)) refl
  where
    by : (rocks_of entries item ≢ [] → Contains entries (item, rocks_of entries item)) → (t : Bool) → is_eq (item_cmp item x.0) ≡ t → Contains (x ∷ entries) (item, rocks_of (x ∷ entries) item)
    by behind true e =
        let same : item ≡ x.0 = same_item item x.0 e in
        let whole : x ≡ (item, rocks_of (x ∷ entries) item) = λ i. (sym same i, sym (here x entries item e) i) in
        subst (λ y. Contains (x ∷ entries) y) whole (contains_first x entries)
    by behind false e =
        let rest : rocks_of (x ∷ entries) item ≡ rocks_of entries item = past x entries item e in
        subst (λ l. Contains (x ∷ entries) (item, l)) (sym rest) (contains_later x entries (item, rocks_of entries item) (behind (λ none. some (rest ∙ none))))

pub rocks_rise : (entries : Entries) (item : Item) → AllByRecursion (λ entry. AreRocks entry.1) entries → Rises listing_cmp (rocks_of entries item)
rocks_rise [] item all = tt
rocks_rise (x ∷ entries) item all =
    elim (is_eq (item_cmp item x.0)) as (λ t. Rises listing_cmp (if t then x.1 else rocks_of entries item)) [
      | true ↦ all.0.1
      | false ↦ rocks_rise entries item all.1
    ]

same_rocks : (pairs more : List (Item × RockKey)) (left right : Entries) → ((pair : Item × RockKey) → Contains pairs pair ↔ Contains more pair) → AreProviders pairs left → AreProviders more right → (item : Item) → rocks_of left item ≡ rocks_of right item
same_rocks pairs more left right same l r item =
    one_rising key_total (rocks_of left item) (rocks_of right item) (rocks_rise left item l.listed.rocks) (rocks_rise right item r.listed.rocks)
    (λ key. (λ has. (r.all item key).0 ((same (item, key)).0 ((l.all item key).1 has)), λ has. (l.all item key).0 ((same (item, key)).1 ((r.all item key).1 has))))

pub one_list_only : (pairs more : List (Item × RockKey)) (left right : Entries) → ((pair : Item × RockKey) → Contains pairs pair ↔ Contains more pair) → AreProviders pairs left → AreProviders more right → left ≡ right
one_list_only pairs more left right same l r =
    one_rising entries_total left right l.listed.items r.listed.items (λ e. (over e left right l.listed rocks, over e right left r.listed (λ item. sym (rocks item))))
  where
    rocks : (item : Item) → rocks_of left item ≡ rocks_of right item
    rocks = same_rocks pairs more left right same l r

    over : (e : Item × List RockKey) (from to : Entries) → AreListed from → ((item : Item) → rocks_of from item ≡ rocks_of to item) → Contains from e → Contains to e
    over e from to listed equal has =
        let mine : rocks_of from e.0 ≡ e.1 = rocks_of_entry from e listed.items has in
        let theirs : rocks_of to e.0 ≡ e.1 = sym (equal e.0) ∙ mine in
        let some : e.1 ≢ [] = (some_if_listed from e listed.rocks has).0 in
        subst (λ l. Contains to (e.0, l)) theirs (entry_if_rocks to e.0 (λ none. some (sym theirs ∙ none)))

-- ---- the pairs of entries

keyed : (item other : Item) (rocks : List RockKey) (key : RockKey) → Contains (map (pair_of item) rocks) (other, key) → (other ≡ item) × Contains rocks key
keyed item other [] key has = absurd (contains_nothing (other, key) has)
keyed item other (rock ∷ rocks) key has = by (keyed item other rocks key) (contains_cases (item, rock) (map (pair_of item) rocks) (other, key) has)
  where
    by : (Contains (map (pair_of item) rocks) (other, key) → (other ≡ item) × Contains rocks key) → (pair_of other key ≡ pair_of item rock) ⊎ Contains (map (pair_of item) rocks) (other, key) → (other ≡ item) × Contains (rock ∷ rocks) key
    by rest (inl same) = (ap (λ (p : Item × RockKey). p.0) same, subst (λ k. Contains (rock ∷ rocks) k) (sym (ap (λ (p : Item × RockKey). p.1) same)) (contains_first rock rocks))
    by rest (inr later) = let found = rest later in (found.0, contains_later rock rocks key found.1)

keyed_back : (item : Item) (rocks : List RockKey) (key : RockKey) → Contains rocks key → Contains (map (pair_of item) rocks) (item, key)
keyed_back item [] key has = absurd (contains_nothing key has)
keyed_back item (rock ∷ rocks) key has = by (keyed_back item rocks key) (contains_cases rock rocks key has)
  where
    by : (Contains rocks key → Contains (map (pair_of item) rocks) (item, key)) → (key ≡ rock) ⊎ Contains rocks key → Contains (map (pair_of item) (rock ∷ rocks)) (item, key)
    by rest (inl same) = subst (λ k. Contains ((item, rock) ∷ map (pair_of item) rocks) (item, k)) (sym same) (contains_first (item, rock) (map (pair_of item) rocks))
    by rest (inr later) = contains_later (item, rock) (map (pair_of item) rocks) (item, key) (rest later)

some_member : (rocks : List RockKey) (key : RockKey) → Contains rocks key → rocks ≢ []
some_member rocks key has none = contains_nothing key (subst (λ l. Contains l key) none has)

own : (entries : Entries) → AreListed entries → (item : Item) (key : RockKey) → Contains (pairs_in entries) (item, key) → Contains (rocks_of entries item) key
own [] listed item key has = absurd (contains_nothing (item, key) has)
own (x ∷ entries) listed item key has =
    by (own entries (record { items = listed.items.1; rocks = listed.rocks.1 }) item key) (Contains-append_cases (map (pair_of x.0) x.1) (pairs_in entries) (item, key) has)
  where
    by : (Contains (pairs_in entries) (item, key) → Contains (rocks_of entries item) key) → Contains (map (pair_of x.0) x.1) (item, key) ⊎ Contains (pairs_in entries) (item, key) → Contains (rocks_of (x ∷ entries) item) key
    by rest (inl mine) =
        let found = keyed x.0 item x.1 key mine in
        let at : is_eq (item_cmp item x.0) ≡ true = subst (λ i. is_eq (item_cmp i x.0) ≡ true) (sym found.0) (is_itself x.0) in
        subst (λ l. Contains l key) (sym (here x entries item at)) found.1
    by rest (inr later) =
        let there = rest later in
        let entry = entry_if_rocks entries item (some_member (rocks_of entries item) key there) in
        let less : entry_cmp x (item, rocks_of entries item) ≡ Less = all_contained (λ y. entry_cmp x y ≡ Less) entries (item, rocks_of entries item) listed.items.0 entry in
        subst (λ l. Contains l key) (sym (past x entries item (not_eq_greater _ (turned entries_total x (item, rocks_of entries item) less)))) there

own_back : (entries : Entries) (item : Item) (key : RockKey) → Contains (rocks_of entries item) key → Contains (pairs_in entries) (item, key)
own_back [] item key has = absurd (contains_nothing key has)
own_back (x ∷ entries) item key has = by (own_back entries item key) (is_eq (item_cmp item x.0)) refl
  where
    by : (Contains (rocks_of entries item) key → Contains (pairs_in entries) (item, key)) → (t : Bool) → is_eq (item_cmp item x.0) ≡ t → Contains (pairs_in (x ∷ entries)) (item, key)
    by rest true e =
        let same : item ≡ x.0 = same_item item x.0 e in
        let mine : Contains x.1 key = subst (λ l. Contains l key) (here x entries item e) has in
        Contains-append_left (map (pair_of x.0) x.1) (pairs_in entries) (item, key) (subst (λ i. Contains (map (pair_of x.0) x.1) (i, key)) (sym same) (keyed_back x.0 x.1 key mine))
    by rest false e =
        Contains-append_right (map (pair_of x.0) x.1) (pairs_in entries) (item, key) (rest (subst (λ l. Contains l key) (past x entries item e) has))

pub own_providers : (entries : Entries) → AreListed entries → AreProviders (pairs_in entries) entries
own_providers entries listed = record { listed = listed; all = λ item key. (own entries listed item key, own_back entries item key) }
