use Rattle.rocks_version.specs.Components.{components}
use Rattle.rocks_constraint.proofs.MeetLemmas.{same_none, same_longer, same_equal, same_unequal, refuted, there}
use Rattle.rocks_constraint.proofs.condition.+are_same.Goals as goal

pub returns-then-not-has_component : goal.returns-then-not-has_component
returns-then-not-has_component t c =
    same_none (components c.args.left.now) (components c.args.right.now) _ (refuted _ _ c.has_component.ensures.1 c.if-not-has_component.true)
    c.has_component-then-not-has_component.ensures.0 c.has_component-then-not-has_component.ensures.1

pub returns-then-not-has_component-2 : goal.returns-then-not-has_component-2
returns-then-not-has_component-2 t c =
    same_longer (components c.args.left.now) (components c.args.right.now) (there _ _ c.has_component.ensures.0 c.if-not-has_component.false)
    (refuted _ _ c.has_component-2.ensures.1 c.if-not-has_component-2.true)

pub returns-then-are_equal : goal.returns-then-are_equal
returns-then-are_equal t c =
    rw (c.are_same.ensures, c.first.ensures.rest, c.first-2.ensures.rest)
    (same_equal (components c.args.left.now) (components c.args.right.now) _ _ _ _ _ c.first.ensures.step c.first.ensures.place c.first-2.ensures.step c.first-2.ensures.place c.are_equal.ensures c.if-are_equal.true
    (there _ _ c.has_component.ensures.0 c.if-not-has_component.false) (there _ _ c.has_component-2.ensures.0 c.if-not-has_component-2.false))

pub returns-else-are_equal : goal.returns-else-are_equal
returns-else-are_equal t c =
    same_unequal (components c.args.left.now) (components c.args.right.now) _ _ _ _ _ c.first.ensures.step c.first.ensures.place c.first-2.ensures.step c.first-2.ensures.place c.are_equal.ensures c.if-are_equal.false
    (there _ _ c.has_component.ensures.0 c.if-not-has_component.false) (there _ _ c.has_component-2.ensures.0 c.if-not-has_component-2.false)
