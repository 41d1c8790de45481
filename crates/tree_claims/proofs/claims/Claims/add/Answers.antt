use Rattle.std.proofs.Common.{List, ◌∷◌, sym, ap, subst, refl, ◌∙◌}
use Rattle.tree_claims.specs.Claims.{IsClean}
use Rattle.tree_claims.specs.Rocks.{HasRock, in_item_order, with_rock}
use Rattle.tree_claims.proofs.Held.{held_by, held_with, put_there, room_within}
use Rattle.tree_claims.proofs.RockSets.{Rock}
use Rattle.tree_claims.proofs.claims.Claims.add.Goals as goal

pub put_in_room-requires-clause-within : goal.put_in_room-requires-clause-within
put_in_room-requires-clause-within c =
    room_within c.args.key.now c.self.inside.rocks.items c.deref.result.now c.reserve.new.self.items c.count_before-at.result c.in_ok-reserve.ensures.items c.count_before-at.ensures c.deref.ensures.value

pub invariant_of-self-2 : goal.invariant_of-self-2
invariant_of-self-2 c =
    held_by c.put_in_room.new.rocks.items (with_rock c.args.key.now (in_item_order c.args.items.now) c.self.inside.rocks.items) c.merge.new.index.items c.merge.new.index.items
    (put_there c.args.key.now c.in_ok-copy.field-0 (in_item_order c.args.items.now) c.in_ok-in_order.field-0 c.self.inside.rocks.items c.deref.result.now c.reserve.new.self.items c.put_in_room.new.rocks.items c.count_before-at.result
    c.put_in_room.ensures c.in_ok-reserve.ensures.items c.count_before-at.ensures c.deref.ensures.value c.in_ok-copy.ensures c.in_ok-in_order.ensures) refl
    (held_with c.self.inside.rocks.items c.args.key.now c.args.items.now c.self.inside.index.items c.in_ok-own.own.items c.merge.new.index.items c.self.invariant
    (λ has. c.requires.absent (subst (HasRock c.args.key.now) c.self.view_is has)) (subst (λ (l : List Rock). IsClean ((c.args.key.now, c.args.items.now) ∷ l)) (sym c.self.view_is) c.requires.clean) c.in_ok-own.ensures c.in_ok-merge.ensures.ok)

pub returns-clause-ok : goal.returns-clause-ok
returns-clause-ok c =
    put_there c.args.key.now c.in_ok-copy.field-0 (in_item_order c.args.items.now) c.in_ok-in_order.field-0 c.self.inside.rocks.items c.deref.result.now c.reserve.new.self.items c.put_in_room.new.rocks.items c.count_before-at.result
    c.put_in_room.ensures c.in_ok-reserve.ensures.items c.count_before-at.ensures c.deref.ensures.value c.in_ok-copy.ensures c.in_ok-in_order.ensures
    ∙ ap (with_rock c.args.key.now (in_item_order c.args.items.now)) c.self.view_is
