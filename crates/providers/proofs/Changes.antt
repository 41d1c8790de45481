-- What the changes of entries that the calls make do to the set that the entries stand for.
use Rattle.std.proofs.Common.{◌≡◌, ◌≢◌, ◌⊎◌, ◌↔◌, inl, inr, ℕ, zero, suc, arith, ◌<◌, ◌≤◌, List, [], ◌∷◌, ◌++◌, length, get_or, set, take, drop, insert, take-append-drop, refl, sym, ap, ◌∙◌, subst, Ok, Err}
use Rattle.std.specs.Prelude.{Contains, OnOk, OnErr, Result}
use Rattle.std.specs.declared.alloc.AllocError.{AllocError}
use Rattle.std.specs.List.{AllByRecursion, remove}
use Rattle.std.specs.List.Sorted.{IsBinarySearchResult}
use Rattle.rocks_text.specs.declared.item.Item.{Item}
use Rattle.rocks_version.specs.Keys.{listing_cmp}
use Rattle.rocks_version.specs.declared.key.RockKey.{RockKey}
use Rattle.providers.specs.Lists.{Entries, rocks_of, pair_of, Rises, AreListed, AreProviders, AreWithout, AreRocks, entry_cmp}
use Rattle.providers.proofs.Sorted.{Under, Over, around, set_around, gap, under_mid, over_mid, all_mid, contains_cases, contains_first, contains_later, contains_nothing}
use Rattle.providers.proofs.Entries.{entry_of, entries_total, items_equal, rocks_there, changed, listed_with, listed_without}

-- the entry of some rocks
entry_of_some : (item : Item) (rocks : List RockKey) → rocks ≢ [] → entry_of item rocks ≡ (item, rocks) ∷ []
entry_of_some item [] some = absurd (some refl)
entry_of_some item (rock ∷ rocks) some = refl

-- more has the pairs of before, but that the item's rocks are these
pub record Becomes (item : Item) (pairs more : List (Item × RockKey)) (now : List RockKey) : Type 0 where
  pub there : (key : RockKey) → Contains more (pair_of item key) ↔ Contains now key
  pub elsewhere : (other : Item) (key : RockKey) → other ≢ item → Contains more (pair_of other key) ↔ Contains pairs (pair_of other key)

-- ---- where the item has an entry

module _ (es : Entries) (item : Item) (at : ℕ) (e : Item × List RockKey) (listed : AreListed es) (within : at < length es)
    (found : IsBinarySearchResult (λ (x : Item × List RockKey). entry_cmp x (item, [])) es (Ok at)) (read : e ≡ get_or es at e) where
  pub its_item : e.0 ≡ item
  its_item = ap (λ (x : Item × List RockKey). x.0) read ∙ items_equal (get_or es at e).0 item (found e)

  its_whole : es ≡ take at es ++ (item, e.1) ∷ drop (suc at) es
  its_whole =
      let same : get_or es at e ≡ (item, e.1) = sym read ∙ (λ i. (its_item i, e.1)) in
      around es at e within ∙ ap (λ (x : Item × List RockKey). take at es ++ x ∷ drop (suc at) es) same

  its_order : Rises entry_cmp (take at es ++ (item, e.1) ∷ drop (suc at) es)
  its_order = subst (Rises entry_cmp) its_whole listed.items

  pub its_rocks : AreRocks e.1
  its_rocks = all_mid (λ (entry : Item × List RockKey). AreRocks entry.1) (take at es) (item, e.1) (drop (suc at) es) (subst (λ l. AllByRecursion (λ (entry : Item × List RockKey). AreRocks entry.1) l) its_whole listed.rocks)

  its_under : Under entries_total (take at es) (item, [])
  its_under = under_mid entries_total (take at es) (item, e.1) (drop (suc at) es) its_order

  its_over : Over entries_total (drop (suc at) es) (item, [])
  its_over = over_mid entries_total (take at es) (item, e.1) (drop (suc at) es) its_order

  as_entry : (rocks : List RockKey) → rocks ≢ [] → take at es ++ (entry_of item rocks ++ drop (suc at) es) ≡ take at es ++ (item, rocks) ∷ drop (suc at) es
  as_entry rocks some = ap (λ l. take at es ++ (l ++ drop (suc at) es)) (entry_of_some item rocks some)

  its_form : es ≡ take at es ++ (entry_of item e.1 ++ drop (suc at) es)
  its_form = its_whole ∙ sym (as_entry e.1 its_rocks.0)

  pub rocks_are : rocks_of es item ≡ e.1
  rocks_are = ap (λ l. rocks_of l item) its_form ∙ rocks_there (take at es) item (drop (suc at) es) its_under its_over e.1

  pub rocks_rise_there : Rises listing_cmp e.1
  rocks_rise_there = its_rocks.1

  form_of : (now : List RockKey) → now ≢ [] → set es at (e.0, now) ≡ take at es ++ (entry_of item now ++ drop (suc at) es)
  form_of now some = ap (λ (i : Item). set es at (i, now)) its_item ∙ set_around es at (item, now) within ∙ sym (as_entry now some)

  pub listed_replaced : (now : List RockKey) → now ≢ [] → Rises listing_cmp now → AreListed (set es at (e.0, now))
  listed_replaced now some up =
      let bare = listed_without (take at es) item (drop (suc at) es) its_under its_over e.1 (subst AreListed its_form listed) in
      subst AreListed (sym (form_of now some)) (listed_with (take at es) item (drop (suc at) es) its_under its_over now bare up)

  pub listed_taken_out : AreListed (remove es at)
  listed_taken_out = listed_without (take at es) item (drop (suc at) es) its_under its_over e.1 (subst AreListed its_form listed)

  -- with the same ones
  pub same_again : set es at e ≡ es
  same_again =
      let entry : (e.0, e.1) ≡ (item, e.1) = λ i. (its_item i, e.1) in
      ap (λ (x : Item × List RockKey). set es at x) entry ∙ set_around es at (item, e.1) within ∙ sym its_whole

  becomes : (pairs more : List (Item × RockKey)) (now : List RockKey) → AreProviders pairs es → Rises listing_cmp now → Becomes item pairs more now → AreProviders more (take at es ++ (entry_of item now ++ drop (suc at) es))
  becomes pairs more now old up new =
      changed (take at es) item (drop (suc at) es) its_under its_over pairs more e.1 now (subst (AreProviders pairs) its_form old) up new.there new.elsewhere

  -- with other rocks
  pub replaced : (pairs more : List (Item × RockKey)) (now : List RockKey) → AreProviders pairs es → now ≢ [] → Rises listing_cmp now → Becomes item pairs more now → AreProviders more (set es at (e.0, now))
  replaced pairs more now old some up new =
      subst (AreProviders more) (sym (form_of now some)) (becomes pairs more now old up new)

  -- with none
  pub taken_out : (pairs more : List (Item × RockKey)) → AreProviders pairs es → Becomes item pairs more [] → AreProviders more (remove es at)
  taken_out pairs more old new = becomes pairs more [] old tt new

-- ---- where it has none

module _ (es : Entries) (item : Item) (at : ℕ) (listed : AreListed es) (within : at ≤ length es)
    (found : IsBinarySearchResult (λ (x : Item × List RockKey). entry_cmp x (item, [])) es (Err at)) where
  sides : Under entries_total (take at es) (item, []) × Over entries_total (drop at es) (item, [])
  sides = gap entries_total es (item, []) at listed.items within found

  gap_form : es ≡ take at es ++ drop at es
  gap_form = sym (take-append-drop at es)

  pub no_rocks_are : rocks_of es item ≡ []
  no_rocks_are = ap (λ l. rocks_of l item) gap_form ∙ rocks_there (take at es) item (drop at es) sides.0 sides.1 []

  pub listed_added : (now : List RockKey) → now ≢ [] → Rises listing_cmp now → AreListed (insert es at (item, now))
  listed_added now some up =
      let form : take at es ++ (entry_of item now ++ drop at es) ≡ insert es at (item, now) = ap (λ l. take at es ++ (l ++ drop at es)) (entry_of_some item now some) in
      subst AreListed form (listed_with (take at es) item (drop at es) sides.0 sides.1 now (subst AreListed gap_form listed) up)

  pub added : (pairs more : List (Item × RockKey)) (now : List RockKey) → AreProviders pairs es → now ≢ [] → Rises listing_cmp now → Becomes item pairs more now → AreProviders more (insert es at (item, now))
  added pairs more now old some up new =
      let form : take at es ++ (entry_of item now ++ drop at es) ≡ insert es at (item, now) = ap (λ l. take at es ++ (l ++ drop at es)) (entry_of_some item now some) in
      subst (AreProviders more) form (changed (take at es) item (drop at es) sides.0 sides.1 pairs more [] now (subst (AreProviders pairs) gap_form old) up new.there new.elsewhere)

-- ---- one pair more

pub one_more : (item : Item) (key : RockKey) (pairs : List (Item × RockKey)) (rocks now : List RockKey) → ((other : RockKey) → Contains pairs (pair_of item other) ↔ Contains rocks other)
    → ((other : RockKey) → Contains now other ↔ ((other ≡ key) ⊎ Contains rocks other)) → Becomes item pairs (pair_of item key ∷ pairs) now
one_more item key pairs rocks now old new = record {
  there = λ other. (λ has. (new other).1 (forth other (contains_cases (pair_of item key) pairs (pair_of item other) has)), λ has. back other ((new other).0 has));
  elsewhere = λ other rock apart. (λ has. past other rock apart (contains_cases (pair_of item key) pairs (pair_of other rock) has), λ has. contains_later (pair_of item key) pairs (pair_of other rock) has);
}
  where
    forth : (other : RockKey) → (pair_of item other ≡ pair_of item key) ⊎ Contains pairs (pair_of item other) → (other ≡ key) ⊎ Contains rocks other
    forth other (inl same) = inl (ap (λ (p : Item × RockKey). p.1) same)
    forth other (inr has) = inr ((old other).0 has)

    back : (other : RockKey) → (other ≡ key) ⊎ Contains rocks other → Contains (pair_of item key ∷ pairs) (pair_of item other)
    back other (inl same) = subst (λ k. Contains (pair_of item key ∷ pairs) (pair_of item k)) (sym same) (contains_first (pair_of item key) pairs)
    back other (inr has) = contains_later (pair_of item key) pairs (pair_of item other) ((old other).1 has)

    past : (other : Item) (rock : RockKey) → other ≢ item → (pair_of other rock ≡ pair_of item key) ⊎ Contains pairs (pair_of other rock) → Contains pairs (pair_of other rock)
    past other rock apart (inl same) = absurd (apart (ap (λ (p : Item × RockKey). p.0) same))
    past other rock apart (inr has) = has

-- ---- one pair less

pub one_less : (item : Item) (key : RockKey) (pairs left : List (Item × RockKey)) (rocks now : List RockKey) → AreWithout (pair_of item key) pairs left
    → ((other : RockKey) → Contains pairs (pair_of item other) ↔ Contains rocks other)
    → ((other : RockKey) → Contains now other ↔ (Contains rocks other × (other ≢ key))) → Becomes item pairs left now
one_less item key pairs left rocks now without old new = record {
  there = λ other. (
    (λ has. let kept = (without (pair_of item other)).0 has in (new other).1 ((old other).0 kept.0, λ same. kept.1 (ap (pair_of item) same))),
    (λ has. let kept = (new other).0 has in (without (pair_of item other)).1 ((old other).1 kept.0, λ same. kept.1 (ap (λ (p : Item × RockKey). p.1) same))),
  );
  elsewhere = λ other rock apart. (
    (λ has. ((without (pair_of other rock)).0 has).0),
    (λ has. (without (pair_of other rock)).1 (has, λ same. apart (ap (λ (p : Item × RockKey). p.0) same))),
  );
}

-- ---- what a call that puts a rock in says

pub some_after : (key : RockKey) (old now : List RockKey) (result : Result (Unit {0}) AllocError)
    → OnOk result ((other : RockKey) → Contains now other ↔ ((other ≡ key) ⊎ Contains old other)) → OnErr result (now ≡ old) → old ≢ [] → now ≢ []
some_after key old now (Ok done) ok err some = λ none. contains_nothing key (subst (λ l. Contains l key) none ((ok key).1 (inl refl)))
some_after key old now (Err fault) ok err some = λ none. some (sym err ∙ none)

pub one_rises : (key : RockKey) → Rises listing_cmp (key ∷ [])
one_rises key = (tt, tt)

pub one_there : (key : RockKey) → (key ∷ []) ≢ []
one_there key e = cc

pub only_one : (key other : RockKey) → Contains (key ∷ []) other ↔ ((other ≡ key) ⊎ Contains [] other)
only_one key other = (λ has. contains_cases key [] other has, by)
  where
    by : (other ≡ key) ⊎ Contains [] other → Contains (key ∷ []) other
    by (inl same) = subst (λ k. Contains (key ∷ []) k) (sym same) (contains_first key [])
    by (inr has) = absurd (contains_nothing other has)

-- ---- the same set

pub same_set : (pairs left : List (Item × RockKey)) (es : Entries) → AreProviders pairs es → ((item : Item) (key : RockKey) → Contains left (pair_of item key) ↔ Contains pairs (pair_of item key)) → AreProviders left es
same_set pairs left es old same = record {
  listed = old.listed;
  all = λ item key. (λ has. (old.all item key).0 ((same item key).0 has), λ has. (same item key).1 ((old.all item key).1 has));
}

-- a pair that wasn't there leaves all
pub none_taken : (item : Item) (key : RockKey) (pairs left : List (Item × RockKey)) (es : Entries) → AreProviders pairs es → AreWithout (pair_of item key) pairs left → (Contains (rocks_of es item) key → ⊥) → AreProviders left es
none_taken item key pairs left es old without absent = same_set pairs left es old (λ other rock. (
  (λ has. ((without (pair_of other rock)).0 has).0),
  (λ has. (without (pair_of other rock)).1 (has, λ same. absent (subst (λ (p : Item × RockKey). Contains (rocks_of es p.0) p.1) same ((old.all other rock).0 has)))),
))

-- a list of one, of which the rock is a member, is that rock's
pub one_alone : (rocks : List RockKey) (key : RockKey) → length rocks ≡ 1 → Contains rocks key → (other : RockKey) → Contains [] other ↔ (Contains rocks other × (other ≢ key))
one_alone [] key one has other = absurd (contains_nothing key has)
one_alone (rock ∷ []) key one has other = (λ none. absurd (contains_nothing other none), λ both. absurd (both.1 (by (contains_cases rock [] other both.0) (contains_cases rock [] key has))))
  where
    by : (other ≡ rock) ⊎ Contains [] other → (key ≡ rock) ⊎ Contains [] key → other ≡ key
    by (inl same) (inl too) = same ∙ sym too
    by (inl same) (inr none) = absurd (contains_nothing key none)
    by (inr none) too = absurd (contains_nothing other none)
one_alone (rock ∷ second ∷ rocks) key one has other = absurd (omega (arith, one))

pub some_left : (rocks : List RockKey) (i : ℕ) → rocks ≢ [] → length rocks ≢ 1 → i < length rocks → remove rocks i ≢ []
some_left [] i some more within = absurd (some refl)
some_left (rock ∷ []) i some more within = absurd (more refl)
some_left (rock ∷ second ∷ rocks) zero some more within = λ e. cc
some_left (rock ∷ second ∷ rocks) (suc i) some more within = λ e. cc

-- what is read twice is the same
pub one_read : {X : Type 0} (xs : List X) (i : ℕ) (x y : X) → i < length xs → x ≡ get_or xs i x → y ≡ get_or xs i y → x ≡ y
one_read [] i x y within e f = absurd (omega arith)
one_read (z ∷ xs) zero x y within e f = e ∙ sym f
one_read (z ∷ xs) (suc i) x y within e f = one_read xs i x y (omega arith) e f
