use Rattle.std.proofs.Common.{◌≡◌, ◌∙◌, ap, sym, subst, Err, Ok, Contains, ◌⊎◌, ◌↔◌}
use Rattle.std.specs.List.{insert}
use Rattle.std.specs.List.Sorted.{IsBinarySearchResult}
use Rattle.rocks_version.specs.Keys.{listing_cmp}
use Rattle.rocks_version.specs.declared.key.RockKey.{RockKey}
use Rattle.rocks_version.proofs.OrderLaws.{key_total, key_equal}
use Rattle.providers.specs.Lists.{Rises}
use Rattle.providers.proofs.Sorted.{at_place, inserted, inserted_has}
use Rattle.providers.proofs.providers.insert_rock.Goals as goal

pub returns-in_ok-insert-clause-up : goal.returns-in_ok-insert-clause-up
returns-in_ok-insert-clause-up c =
    let xs = c.args.rocks.now.items in
    let key = c.args.key.now in
    let found : IsBinarySearchResult (λ (rock : RockKey). listing_cmp rock key) xs (Err c.in-Err.at) = rw c.deref.ensures.value at c.in-Err.ensures.place in
    let new : c.insert.new.self.items ≡ insert xs c.in-Err.at key = c.in_ok-insert.ensures.items ∙ ap (insert xs c.in-Err.at) c.in_ok-copied.ensures in
    subst (Rises listing_cmp) (sym new) (inserted key_total xs key c.in-Err.at c.requires.up (rw c.deref.ensures.value at c.in-Err.ensures.bound) found)

pub returns-in_ok-insert-clause-ok : goal.returns-in_ok-insert-clause-ok
returns-in_ok-insert-clause-ok c = λ other.
    let xs = c.args.rocks.now.items in
    let key = c.args.key.now in
    let new : c.insert.new.self.items ≡ insert xs c.in-Err.at key = c.in_ok-insert.ensures.items ∙ ap (insert xs c.in-Err.at) c.in_ok-copied.ensures in
    subst (λ l. Contains l other ↔ ((other ≡ key) ⊎ Contains xs other)) (sym new) (inserted_has key_total xs key c.in-Err.at other)

pub returns-in_default-clause-ok : goal.returns-in_default-clause-ok
returns-in_default-clause-ok c =
    let xs = c.args.rocks.now.items in
    let key = c.args.key.now in
    let found : IsBinarySearchResult (λ (rock : RockKey). listing_cmp rock key) xs (Ok c.in_default.field-0) = rw c.deref.ensures.value at c.in_default.ensures.place in
    absurd (c.requires.absent (at_place key_total key_equal xs key c.in_default.field-0 (rw c.deref.ensures.value at c.in_default.ensures.bound) found))
