use Rattle.std.proofs.Common.{◌≡◌, ◌∙◌, ap, sym, subst, Err, Ok, List, [], get_or}
use Rattle.std.specs.List.Sorted.{IsBinarySearchResult}
use Rattle.rocks_text.specs.declared.item.Item.{Item}
use Rattle.rocks_version.specs.declared.key.RockKey.{RockKey}
use Rattle.providers.specs.Lists.{entry_cmp, rocks_of, Entries}
use Rattle.providers.proofs.Changes.{rocks_are, no_rocks_are}
use Rattle.providers.proofs.providers.Providers.rocks.Goals as goal

pub returns-in-Ok : goal.returns-in-Ok
returns-in-Ok c =
    let es = c.self.inside.entries.items in
    let item = c.args.item.now in
    let e : Item × List RockKey = (c.behind-self.inside.item, c.behind-self.inside.rocks.items) in
    let read : e ≡ get_or es c.in-Ok.at e = subst (λ (x : Item × List RockKey). x ≡ get_or es c.in-Ok.at x) (sym c.behind-self.view_is) c.index.ensures in
    let found : IsBinarySearchResult (λ (x : Item × List RockKey). entry_cmp x (item, [])) es (Ok c.in-Ok.at) = rw c.deref.ensures.value at c.in-Ok.ensures.place in
    let rocks = rocks_are es item c.in-Ok.at e c.self.invariant (rw c.deref.ensures.value at c.in-Ok.ensures.bound) found read in
    c.as_slice.ensures.value ∙ sym rocks ∙ ap (λ (l : Entries). rocks_of l item) c.self.view_is

pub returns-in-Err : goal.returns-in-Err
returns-in-Err c =
    let es = c.self.inside.entries.items in
    let item = c.args.item.now in
    let found : IsBinarySearchResult (λ (x : Item × List RockKey). entry_cmp x (item, [])) es (Err c.in-Err.field-0) = rw c.deref.ensures.value at c.in-Err.ensures.place in
    let none = no_rocks_are es item c.in-Err.field-0 c.self.invariant (rw c.deref.ensures.value at c.in-Err.ensures.bound) found in
    sym (ap (λ (l : Entries). rocks_of l item) (sym c.self.view_is) ∙ none)
