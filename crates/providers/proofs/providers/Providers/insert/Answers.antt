use Rattle.std.proofs.Common.{set, ◌≡◌, ◌↔◌, ◌∙◌, ap, sym, subst, Err, Ok, List, [], ◌∷◌, Contains, Result, get_or, set, insert, OnOk, OnErr}
use Rattle.std.specs.List.Sorted.{IsBinarySearchResult}
use Rattle.rocks_text.specs.declared.item.Item.{Item}
use Rattle.rocks_version.specs.declared.key.RockKey.{RockKey}
use Rattle.providers.specs.Lists.{entry_cmp, pair_of, rocks_of, AreListed, AreProviders}
use Rattle.providers.proofs.Changes.{its_rocks, rocks_are, replaced, listed_replaced, same_again, no_rocks_are, added, listed_added, one_more, some_after, one_rises, one_there, only_one}
use Rattle.providers.proofs.providers.Providers.insert.Goals as goal

pub insert_rock-requires-clause-absent : goal.insert_rock-requires-clause-absent
insert_rock-requires-clause-absent c = λ has.
    let es = c.self.inside.entries.items in
    let e : Item × List RockKey = (c.behind-self.inside.item, c.behind-self.inside.rocks.items) in
    let read : e ≡ get_or es c.in-Ok.at e = subst (λ (x : Item × List RockKey). x ≡ get_or es c.in-Ok.at x) (sym c.behind-self.view_is) c.index_mut.ensures.value in
    let found : IsBinarySearchResult (λ (x : Item × List RockKey). entry_cmp x (c.args.item.now, [])) es (Ok c.in-Ok.at) = rw c.deref.ensures.value at c.in-Ok.ensures.place in
    let rocks = rocks_are es c.args.item.now c.in-Ok.at e c.self.invariant (rw c.deref.ensures.value at c.in-Ok.ensures.bound) found read in
    c.requires.absent (subst (λ (l : List (Item × List RockKey)). Contains (rocks_of l c.args.item.now) c.args.key.now) c.self.view_is (subst (λ l. Contains l c.args.key.now) (sym rocks) has))

pub invariant_of-self : goal.invariant_of-self
invariant_of-self c =
    let es = c.self.inside.entries.items in
    let e : Item × List RockKey = (c.behind-self.inside.item, c.behind-self.inside.rocks.items) in
    let read : e ≡ get_or es c.in-Ok.at e = subst (λ (x : Item × List RockKey). x ≡ get_or es c.in-Ok.at x) (sym c.behind-self.view_is) c.index_mut.ensures.value in
    let found : IsBinarySearchResult (λ (x : Item × List RockKey). entry_cmp x (c.args.item.now, [])) es (Ok c.in-Ok.at) = rw c.deref.ensures.value at c.in-Ok.ensures.place in
    let within = rw c.deref.ensures.value at c.in-Ok.ensures.bound in
    let old = its_rocks es c.args.item.now c.in-Ok.at e c.self.invariant within found read in
    let some = some_after c.args.key.now e.1 c.insert_rock.new.rocks.items c.insert_rock.result c.insert_rock.ensures.ok c.insert_rock.ensures.err old.0 in
    listed_replaced es c.args.item.now c.in-Ok.at e c.self.invariant within found read c.insert_rock.new.rocks.items some c.insert_rock.ensures.up

pub invariant_of-self-in-Err : goal.invariant_of-self-in-Err
invariant_of-self-in-Err c =
    let es = c.self.inside.entries.items in
    let key = c.args.key.now in
    let found : IsBinarySearchResult (λ (x : Item × List RockKey). entry_cmp x (c.args.item.now, [])) es (Err c.in-Err.at) = rw c.deref.ensures.value at c.in-Err.ensures.place in
    let new : c.insert.new.self.items ≡ insert es c.in-Err.at (c.args.item.now, key ∷ []) = c.in_ok-insert-in-Err.ensures.items ∙ ap (insert es c.in-Err.at) c.in_ok-entry-in-Err.ensures in
    subst AreListed (sym new) (listed_added es c.args.item.now c.in-Err.at c.self.invariant (rw c.deref.ensures.value at c.in-Err.ensures.bound) found (key ∷ []) (one_there key) (one_rises key))

pub returns-in-Ok-clause-ok : goal.returns-in-Ok-clause-ok
returns-in-Ok-clause-ok c =
    by c.insert_rock.result (λ member pairs old.
    let es = c.self.inside.entries.items in
    let e : Item × List RockKey = (c.behind-self.inside.item, c.behind-self.inside.rocks.items) in
    let read : e ≡ get_or es c.in-Ok.at e = subst (λ (x : Item × List RockKey). x ≡ get_or es c.in-Ok.at x) (sym c.behind-self.view_is) c.index_mut.ensures.value in
    let found : IsBinarySearchResult (λ (x : Item × List RockKey). entry_cmp x (c.args.item.now, [])) es (Ok c.in-Ok.at) = rw c.deref.ensures.value at c.in-Ok.ensures.place in
    let within = rw c.deref.ensures.value at c.in-Ok.ensures.bound in
    let rocks = its_rocks es c.args.item.now c.in-Ok.at e c.self.invariant within found read in
    let some = some_after c.args.key.now e.1 c.insert_rock.new.rocks.items c.insert_rock.result c.insert_rock.ensures.ok c.insert_rock.ensures.err rocks.0 in
    let before : AreProviders pairs es = subst (AreProviders pairs) (sym c.self.view_is) old in
    let there = rocks_are es c.args.item.now c.in-Ok.at e c.self.invariant within found read in
    replaced es c.args.item.now c.in-Ok.at e c.self.invariant within found read pairs (pair_of c.args.item.now c.args.key.now ∷ pairs) c.insert_rock.new.rocks.items before some c.insert_rock.ensures.up
    (one_more c.args.item.now c.args.key.now pairs e.1 c.insert_rock.new.rocks.items (λ other. subst (λ l. Contains pairs (pair_of c.args.item.now other) ↔ Contains l other) there (before.all c.args.item.now other)) member)) c.insert_rock.ensures.ok
  where
    by : {P Q : Type 0} {T E : Type 0} (result : Result T E) → (P → Q) → OnOk result P → OnOk result Q
    by (Ok done) f p = f p
    by (Err fault) f p = tt

pub returns-in-Ok-clause-err : goal.returns-in-Ok-clause-err
returns-in-Ok-clause-err c =
    by c.insert_rock.result (λ (same : c.insert_rock.new.rocks.items ≡ c.behind-self.inside.rocks.items).
    let es = c.self.inside.entries.items in
    let e : Item × List RockKey = (c.behind-self.inside.item, c.behind-self.inside.rocks.items) in
    let read : e ≡ get_or es c.in-Ok.at e = subst (λ (x : Item × List RockKey). x ≡ get_or es c.in-Ok.at x) (sym c.behind-self.view_is) c.index_mut.ensures.value in
    let found : IsBinarySearchResult (λ (x : Item × List RockKey). entry_cmp x (c.args.item.now, [])) es (Ok c.in-Ok.at) = rw c.deref.ensures.value at c.in-Ok.ensures.place in
    let within = rw c.deref.ensures.value at c.in-Ok.ensures.bound in
    ap (λ l. set es c.in-Ok.at (c.behind-self.inside.item, l)) same ∙ same_again es c.args.item.now c.in-Ok.at e c.self.invariant within found read ∙ c.self.view_is) c.insert_rock.ensures.err
  where
    by : {P Q : Type 0} {T E : Type 0} (result : Result T E) → (P → Q) → OnErr result P → OnErr result Q
    by (Ok done) f p = tt
    by (Err fault) f p = f p

pub returns-in_ok-insert-in-Err-clause-ok : goal.returns-in_ok-insert-in-Err-clause-ok
returns-in_ok-insert-in-Err-clause-ok c = λ pairs old.
    let es = c.self.inside.entries.items in
    let item = c.args.item.now in
    let key = c.args.key.now in
    let found : IsBinarySearchResult (λ (x : Item × List RockKey). entry_cmp x (item, [])) es (Err c.in-Err.at) = rw c.deref.ensures.value at c.in-Err.ensures.place in
    let within = rw c.deref.ensures.value at c.in-Err.ensures.bound in
    let new : c.insert.new.self.items ≡ insert es c.in-Err.at (item, key ∷ []) = c.in_ok-insert-in-Err.ensures.items ∙ ap (insert es c.in-Err.at) c.in_ok-entry-in-Err.ensures in
    let before : AreProviders pairs es = subst (AreProviders pairs) (sym c.self.view_is) old in
    let none = no_rocks_are es item c.in-Err.at c.self.invariant within found in
    subst (AreProviders (pair_of item key ∷ pairs)) (sym new)
    (added es item c.in-Err.at c.self.invariant within found pairs (pair_of item key ∷ pairs) (key ∷ []) before (one_there key) (one_rises key)
    (one_more item key pairs [] (key ∷ []) (λ other. subst (λ l. Contains pairs (pair_of item other) ↔ Contains l other) none (before.all item other)) (only_one key)))
