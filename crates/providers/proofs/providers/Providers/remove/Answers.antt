use Rattle.std.proofs.Common.{rules, ◌≡◌, ◌≢◌, ◌↔◌, ◌∙◌, ap, sym, subst, refl, Err, Ok, List, [], Contains, get_or, length}
use Rattle.std.specs.List.{remove}
use Rattle.std.specs.List.Sorted.{IsBinarySearchResult}
use Rattle.rocks_text.specs.declared.item.Item.{Item}
use Rattle.rocks_version.specs.Keys.{listing_cmp}
use Rattle.rocks_version.specs.declared.key.RockKey.{RockKey}
use Rattle.rocks_version.proofs.OrderLaws.{key_total, key_equal}
use Rattle.providers.specs.Lists.{entry_cmp, rocks_of, pair_of, Entries, Rises, AreListed, AreProviders}
use Rattle.providers.proofs.Sorted.{at_place, not_at_gap, contains_nothing, removed_rises, removed_has}
use Rattle.providers.proofs.Changes.{its_rocks, rocks_are, no_rocks_are, replaced, listed_replaced, taken_out, listed_taken_out, none_taken, one_less, one_alone, some_left, one_read}
use Rattle.providers.proofs.providers.Providers.remove.Goals as goal

pub returns-in_default-clause-found : goal.returns-in_default-clause-found
returns-in_default-clause-found c =
    let es = c.self.inside.entries.items in
    let item = c.args.item.now in
    let key = c.args.key.now in
    let found : IsBinarySearchResult (λ (x : Item × List RockKey). entry_cmp x (item, [])) es (Err c.in_default.field-0) = rw c.deref.ensures.value at c.in_default.ensures.place in
    let none : rocks_of c.args.self.now item ≡ [] = ap (λ (l : Entries). rocks_of l item) (sym c.self.view_is) ∙ no_rocks_are es item c.in_default.field-0 c.self.invariant (rw c.deref.ensures.value at c.in_default.ensures.bound) found in
    let absent = λ (has : Contains (rocks_of c.args.self.now item) key). contains_nothing key (subst (λ l. Contains l key) none has) in
    (λ no. cc, λ has. absurd (absent has))

pub returns-in_default-clause-value : goal.returns-in_default-clause-value
returns-in_default-clause-value c = λ pairs left old without.
    let es = c.self.inside.entries.items in
    let item = c.args.item.now in
    let key = c.args.key.now in
    let found : IsBinarySearchResult (λ (x : Item × List RockKey). entry_cmp x (item, [])) es (Err c.in_default.field-0) = rw c.deref.ensures.value at c.in_default.ensures.place in
    let none : rocks_of c.args.self.now item ≡ [] = ap (λ (l : Entries). rocks_of l item) (sym c.self.view_is) ∙ no_rocks_are es item c.in_default.field-0 c.self.invariant (rw c.deref.ensures.value at c.in_default.ensures.bound) found in
    let absent = λ (has : Contains (rocks_of c.args.self.now item) key). contains_nothing key (subst (λ l. Contains l key) none has) in
    none_taken item key pairs left c.args.self.now old without absent

pub returns-in_default-rock_place-clause-found : goal.returns-in_default-rock_place-clause-found
returns-in_default-rock_place-clause-found c =
    let es = c.self.inside.entries.items in
    let item = c.args.item.now in
    let key = c.args.key.now in
    let e : Item × List RockKey = (c.behind-self.inside.item, c.behind-self.inside.rocks.items) in
    let read : e ≡ get_or es c.in-Ok.at e = subst (λ (x : Item × List RockKey). x ≡ get_or es c.in-Ok.at x) (sym c.behind-self.view_is) c.index.ensures in
    let found : IsBinarySearchResult (λ (x : Item × List RockKey). entry_cmp x (item, [])) es (Ok c.in-Ok.at) = rw c.deref.ensures.value at c.in-Ok.ensures.place in
    let within = rw c.deref.ensures.value at c.in-Ok.ensures.bound in
    let there = rocks_are es item c.in-Ok.at e c.self.invariant within found read in
    let mine : rocks_of c.args.self.now item ≡ e.1 = ap (λ (l : Entries). rocks_of l item) (sym c.self.view_is) ∙ there in
    let up = (its_rocks es item c.in-Ok.at e c.self.invariant within found read).1 in
    let at = c.in_default-rock_place.field-0 in
    let spot : IsBinarySearchResult (λ (r : RockKey). listing_cmp r key) e.1 (Err at) = rw c.as_slice-rocks.ensures.value at c.in_default-rock_place.ensures.place in
    let inside = rw c.as_slice-rocks.ensures.value at c.in_default-rock_place.ensures.bound in
    let absent = λ (has : Contains (rocks_of c.args.self.now item) key). not_at_gap key_total e.1 key at up inside spot (subst (λ l. Contains l key) mine has) in
    (λ no. cc, λ has. absurd (absent has))

pub returns-in_default-rock_place-clause-value : goal.returns-in_default-rock_place-clause-value
returns-in_default-rock_place-clause-value c = λ pairs left old without.
    let es = c.self.inside.entries.items in
    let item = c.args.item.now in
    let key = c.args.key.now in
    let e : Item × List RockKey = (c.behind-self.inside.item, c.behind-self.inside.rocks.items) in
    let read : e ≡ get_or es c.in-Ok.at e = subst (λ (x : Item × List RockKey). x ≡ get_or es c.in-Ok.at x) (sym c.behind-self.view_is) c.index.ensures in
    let found : IsBinarySearchResult (λ (x : Item × List RockKey). entry_cmp x (item, [])) es (Ok c.in-Ok.at) = rw c.deref.ensures.value at c.in-Ok.ensures.place in
    let within = rw c.deref.ensures.value at c.in-Ok.ensures.bound in
    let there = rocks_are es item c.in-Ok.at e c.self.invariant within found read in
    let mine : rocks_of c.args.self.now item ≡ e.1 = ap (λ (l : Entries). rocks_of l item) (sym c.self.view_is) ∙ there in
    let up = (its_rocks es item c.in-Ok.at e c.self.invariant within found read).1 in
    let at = c.in_default-rock_place.field-0 in
    let spot : IsBinarySearchResult (λ (r : RockKey). listing_cmp r key) e.1 (Err at) = rw c.as_slice-rocks.ensures.value at c.in_default-rock_place.ensures.place in
    let inside = rw c.as_slice-rocks.ensures.value at c.in_default-rock_place.ensures.bound in
    let absent = λ (has : Contains (rocks_of c.args.self.now item) key). not_at_gap key_total e.1 key at up inside spot (subst (λ l. Contains l key) mine has) in
    none_taken item key pairs left c.args.self.now old without absent

pub invariant_of-self : goal.invariant_of-self
invariant_of-self c =
    let es = c.self.inside.entries.items in
    let item = c.args.item.now in
    let key = c.args.key.now in
    let e : Item × List RockKey = (c.behind-self.inside.item, c.behind-self.inside.rocks.items) in
    let read : e ≡ get_or es c.in-Ok.at e = subst (λ (x : Item × List RockKey). x ≡ get_or es c.in-Ok.at x) (sym c.behind-self.view_is) c.index.ensures in
    let found : IsBinarySearchResult (λ (x : Item × List RockKey). entry_cmp x (item, [])) es (Ok c.in-Ok.at) = rw c.deref.ensures.value at c.in-Ok.ensures.place in
    let within = rw c.deref.ensures.value at c.in-Ok.ensures.bound in
    let there = rocks_are es item c.in-Ok.at e c.self.invariant within found read in
    let mine : rocks_of c.args.self.now item ≡ e.1 = ap (λ (l : Entries). rocks_of l item) (sym c.self.view_is) ∙ there in
    let up = (its_rocks es item c.in-Ok.at e c.self.invariant within found read).1 in
    subst AreListed (sym c.remove.ensures.items) (listed_taken_out es item c.in-Ok.at e c.self.invariant within found read)

pub invariant_of-self-else-rocks-eq1 : goal.invariant_of-self-else-rocks-eq1
invariant_of-self-else-rocks-eq1 c =
    let es = c.self.inside.entries.items in
    let item = c.args.item.now in
    let key = c.args.key.now in
    let e : Item × List RockKey = (c.behind-self.inside.item, c.behind-self.inside.rocks.items) in
    let read : e ≡ get_or es c.in-Ok.at e = subst (λ (x : Item × List RockKey). x ≡ get_or es c.in-Ok.at x) (sym c.behind-self.view_is) c.index.ensures in
    let found : IsBinarySearchResult (λ (x : Item × List RockKey). entry_cmp x (item, [])) es (Ok c.in-Ok.at) = rw c.deref.ensures.value at c.in-Ok.ensures.place in
    let within = rw c.deref.ensures.value at c.in-Ok.ensures.bound in
    let there = rocks_are es item c.in-Ok.at e c.self.invariant within found read in
    let mine : rocks_of c.args.self.now item ≡ e.1 = ap (λ (l : Entries). rocks_of l item) (sym c.self.view_is) ∙ there in
    let up = (its_rocks es item c.in-Ok.at e c.self.invariant within found read).1 in
    let rock = c.in-Ok-rock_place.rock in
    let spot : IsBinarySearchResult (λ (r : RockKey). listing_cmp r key) e.1 (Ok rock) = rw c.as_slice-rocks.ensures.value at c.in-Ok-rock_place.ensures.place in
    let inside = rw c.as_slice-rocks.ensures.value at c.in-Ok-rock_place.ensures.bound in
    let is : get_or e.1 rock key ≡ key = key_equal (get_or e.1 rock key) key (spot key) in
    let has : Contains e.1 key = at_place key_total key_equal e.1 key rock inside spot in
    let more : length e.1 ≢ 1 = search rules in
    let e3 : Item × List RockKey = (c.behind-self-else-rocks-eq1.inside.item, c.behind-self-else-rocks-eq1.inside.rocks.items) in
    let read3 : e3 ≡ get_or es c.in-Ok.at e3 = subst (λ (x : Item × List RockKey). x ≡ get_or es c.in-Ok.at x) (sym c.behind-self-else-rocks-eq1.view_is) c.index_mut.ensures.value in
    let same : e3 ≡ e = one_read es c.in-Ok.at e3 e within read3 read in
    let now : c.remove-else-rocks-eq1.new.self.items ≡ remove e.1 rock = c.remove-else-rocks-eq1.ensures.items ∙ ap (λ (x : Item × List RockKey). remove x.1 rock) same in
    let some : c.remove-else-rocks-eq1.new.self.items ≢ [] = subst (λ l. l ≢ []) (sym now) (some_left e.1 rock (its_rocks es item c.in-Ok.at e c.self.invariant within found read).0 more inside) in
    let rises : Rises listing_cmp c.remove-else-rocks-eq1.new.self.items = subst (Rises listing_cmp) (sym now) (removed_rises key_total e.1 rock key up inside is) in
    listed_replaced es item c.in-Ok.at e3 c.self.invariant within found read3 c.remove-else-rocks-eq1.new.self.items some rises

pub returns-then-rocks-eq1-clause-found : goal.returns-then-rocks-eq1-clause-found
returns-then-rocks-eq1-clause-found c =
    let es = c.self.inside.entries.items in
    let item = c.args.item.now in
    let key = c.args.key.now in
    let e : Item × List RockKey = (c.behind-self.inside.item, c.behind-self.inside.rocks.items) in
    let read : e ≡ get_or es c.in-Ok.at e = subst (λ (x : Item × List RockKey). x ≡ get_or es c.in-Ok.at x) (sym c.behind-self.view_is) c.index.ensures in
    let found : IsBinarySearchResult (λ (x : Item × List RockKey). entry_cmp x (item, [])) es (Ok c.in-Ok.at) = rw c.deref.ensures.value at c.in-Ok.ensures.place in
    let within = rw c.deref.ensures.value at c.in-Ok.ensures.bound in
    let there = rocks_are es item c.in-Ok.at e c.self.invariant within found read in
    let mine : rocks_of c.args.self.now item ≡ e.1 = ap (λ (l : Entries). rocks_of l item) (sym c.self.view_is) ∙ there in
    let up = (its_rocks es item c.in-Ok.at e c.self.invariant within found read).1 in
    let rock = c.in-Ok-rock_place.rock in
    let spot : IsBinarySearchResult (λ (r : RockKey). listing_cmp r key) e.1 (Ok rock) = rw c.as_slice-rocks.ensures.value at c.in-Ok-rock_place.ensures.place in
    let inside = rw c.as_slice-rocks.ensures.value at c.in-Ok-rock_place.ensures.bound in
    let is : get_or e.1 rock key ≡ key = key_equal (get_or e.1 rock key) key (spot key) in
    let has : Contains e.1 key = at_place key_total key_equal e.1 key rock inside spot in
    (λ yes. subst (λ l. Contains l key) (sym mine) has, λ _. refl)

pub returns-else-rocks-eq1-clause-found : goal.returns-else-rocks-eq1-clause-found
returns-else-rocks-eq1-clause-found c =
    let es = c.self.inside.entries.items in
    let item = c.args.item.now in
    let key = c.args.key.now in
    let e : Item × List RockKey = (c.behind-self.inside.item, c.behind-self.inside.rocks.items) in
    let read : e ≡ get_or es c.in-Ok.at e = subst (λ (x : Item × List RockKey). x ≡ get_or es c.in-Ok.at x) (sym c.behind-self.view_is) c.index.ensures in
    let found : IsBinarySearchResult (λ (x : Item × List RockKey). entry_cmp x (item, [])) es (Ok c.in-Ok.at) = rw c.deref.ensures.value at c.in-Ok.ensures.place in
    let within = rw c.deref.ensures.value at c.in-Ok.ensures.bound in
    let there = rocks_are es item c.in-Ok.at e c.self.invariant within found read in
    let mine : rocks_of c.args.self.now item ≡ e.1 = ap (λ (l : Entries). rocks_of l item) (sym c.self.view_is) ∙ there in
    let up = (its_rocks es item c.in-Ok.at e c.self.invariant within found read).1 in
    let rock = c.in-Ok-rock_place.rock in
    let spot : IsBinarySearchResult (λ (r : RockKey). listing_cmp r key) e.1 (Ok rock) = rw c.as_slice-rocks.ensures.value at c.in-Ok-rock_place.ensures.place in
    let inside = rw c.as_slice-rocks.ensures.value at c.in-Ok-rock_place.ensures.bound in
    let is : get_or e.1 rock key ≡ key = key_equal (get_or e.1 rock key) key (spot key) in
    let has : Contains e.1 key = at_place key_total key_equal e.1 key rock inside spot in
    (λ yes. subst (λ l. Contains l key) (sym mine) has, λ _. refl)

pub returns-then-rocks-eq1-clause-value : goal.returns-then-rocks-eq1-clause-value
returns-then-rocks-eq1-clause-value c = λ pairs left old without.
    let es = c.self.inside.entries.items in
    let item = c.args.item.now in
    let key = c.args.key.now in
    let e : Item × List RockKey = (c.behind-self.inside.item, c.behind-self.inside.rocks.items) in
    let read : e ≡ get_or es c.in-Ok.at e = subst (λ (x : Item × List RockKey). x ≡ get_or es c.in-Ok.at x) (sym c.behind-self.view_is) c.index.ensures in
    let found : IsBinarySearchResult (λ (x : Item × List RockKey). entry_cmp x (item, [])) es (Ok c.in-Ok.at) = rw c.deref.ensures.value at c.in-Ok.ensures.place in
    let within = rw c.deref.ensures.value at c.in-Ok.ensures.bound in
    let there = rocks_are es item c.in-Ok.at e c.self.invariant within found read in
    let mine : rocks_of c.args.self.now item ≡ e.1 = ap (λ (l : Entries). rocks_of l item) (sym c.self.view_is) ∙ there in
    let up = (its_rocks es item c.in-Ok.at e c.self.invariant within found read).1 in
    let rock = c.in-Ok-rock_place.rock in
    let spot : IsBinarySearchResult (λ (r : RockKey). listing_cmp r key) e.1 (Ok rock) = rw c.as_slice-rocks.ensures.value at c.in-Ok-rock_place.ensures.place in
    let inside = rw c.as_slice-rocks.ensures.value at c.in-Ok-rock_place.ensures.bound in
    let is : get_or e.1 rock key ≡ key = key_equal (get_or e.1 rock key) key (spot key) in
    let has : Contains e.1 key = at_place key_total key_equal e.1 key rock inside spot in
    let before : AreProviders pairs es = subst (AreProviders pairs) (sym c.self.view_is) old in
    let members = λ (other : RockKey). subst (λ l. Contains pairs (pair_of item other) ↔ Contains l other) there (before.all item other) in
    let one : length e.1 ≡ 1 = search rules in
    subst (AreProviders left) (sym c.remove.ensures.items) (taken_out es item c.in-Ok.at e c.self.invariant within found read pairs left before (one_less item key pairs left e.1 [] without members (one_alone e.1 key one has)))

pub returns-else-rocks-eq1-clause-value : goal.returns-else-rocks-eq1-clause-value
returns-else-rocks-eq1-clause-value c = λ pairs left old without.
    let es = c.self.inside.entries.items in
    let item = c.args.item.now in
    let key = c.args.key.now in
    let e : Item × List RockKey = (c.behind-self.inside.item, c.behind-self.inside.rocks.items) in
    let read : e ≡ get_or es c.in-Ok.at e = subst (λ (x : Item × List RockKey). x ≡ get_or es c.in-Ok.at x) (sym c.behind-self.view_is) c.index.ensures in
    let found : IsBinarySearchResult (λ (x : Item × List RockKey). entry_cmp x (item, [])) es (Ok c.in-Ok.at) = rw c.deref.ensures.value at c.in-Ok.ensures.place in
    let within = rw c.deref.ensures.value at c.in-Ok.ensures.bound in
    let there = rocks_are es item c.in-Ok.at e c.self.invariant within found read in
    let mine : rocks_of c.args.self.now item ≡ e.1 = ap (λ (l : Entries). rocks_of l item) (sym c.self.view_is) ∙ there in
    let up = (its_rocks es item c.in-Ok.at e c.self.invariant within found read).1 in
    let rock = c.in-Ok-rock_place.rock in
    let spot : IsBinarySearchResult (λ (r : RockKey). listing_cmp r key) e.1 (Ok rock) = rw c.as_slice-rocks.ensures.value at c.in-Ok-rock_place.ensures.place in
    let inside = rw c.as_slice-rocks.ensures.value at c.in-Ok-rock_place.ensures.bound in
    let is : get_or e.1 rock key ≡ key = key_equal (get_or e.1 rock key) key (spot key) in
    let has : Contains e.1 key = at_place key_total key_equal e.1 key rock inside spot in
    let before : AreProviders pairs es = subst (AreProviders pairs) (sym c.self.view_is) old in
    let members = λ (other : RockKey). subst (λ l. Contains pairs (pair_of item other) ↔ Contains l other) there (before.all item other) in
    let more : length e.1 ≢ 1 = search rules in
    let e3 : Item × List RockKey = (c.behind-self-else-rocks-eq1.inside.item, c.behind-self-else-rocks-eq1.inside.rocks.items) in
    let read3 : e3 ≡ get_or es c.in-Ok.at e3 = subst (λ (x : Item × List RockKey). x ≡ get_or es c.in-Ok.at x) (sym c.behind-self-else-rocks-eq1.view_is) c.index_mut.ensures.value in
    let same : e3 ≡ e = one_read es c.in-Ok.at e3 e within read3 read in
    let now : c.remove-else-rocks-eq1.new.self.items ≡ remove e.1 rock = c.remove-else-rocks-eq1.ensures.items ∙ ap (λ (x : Item × List RockKey). remove x.1 rock) same in
    let some : c.remove-else-rocks-eq1.new.self.items ≢ [] = subst (λ l. l ≢ []) (sym now) (some_left e.1 rock (its_rocks es item c.in-Ok.at e c.self.invariant within found read).0 more inside) in
    let rises : Rises listing_cmp c.remove-else-rocks-eq1.new.self.items = subst (Rises listing_cmp) (sym now) (removed_rises key_total e.1 rock key up inside is) in
    replaced es item c.in-Ok.at e3 c.self.invariant within found read3 pairs left c.remove-else-rocks-eq1.new.self.items before some rises
    (one_less item key pairs left e.1 c.remove-else-rocks-eq1.new.self.items without members (λ other. subst (λ l. Contains l other ↔ (Contains e.1 other × (other ≢ key))) (sym now) (removed_has key_total e.1 rock key up inside is other)))
