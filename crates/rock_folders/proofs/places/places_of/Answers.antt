use Rattle.std.proofs.Common.{List, ◌++◌, ap, map, ◌∙◌, ℕ}
use Rattle.rocks_text.specs.declared.item.Item.{Item}
use Rattle.rock_folders.specs.Steps.{item_place, own_place}
use Rattle.rock_folders.proofs.RecordTests.{joined_places}
use Rattle.rock_folders.proofs.places.places_of.Goals as goal

pub returns : goal.returns
returns c =
    joined_places c.in_ok-places.places.items c.add_own_places.new.places.items c.push.new.self.items (own_place c.in_ok-known.field-0)
    (map (λ file. item_place file.0) c.args.whole.now.items) (map (λ file. own_place file.0) c.args.whole.now.own) _
    c.in_ok-push.ensures.items
    (c.in_ok-add_own_places.ensures ∙ ap (λ (files : List (List ℕ × List ℕ)). c.in_ok-places.places.items ++ map (λ file. own_place file.0) files) c.as_slice-2.ensures)
    (c.in_ok-places.ensures ∙ ap (λ (files : List (Item × List ℕ)). map (λ file. item_place file.0) files) c.as_slice.ensures) (ap own_place c.in_ok-known.ensures)
