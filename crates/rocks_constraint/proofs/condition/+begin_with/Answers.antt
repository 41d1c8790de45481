use Rattle.rocks_version.specs.Components.{components}
use Rattle.rocks_constraint.proofs.MeetLemmas.{begin_none, begin_equal, begin_unequal, refuted, there}
use Rattle.rocks_constraint.proofs.condition.+begin_with.Goals as goal

pub returns-then-not-has_component : goal.returns-then-not-has_component
returns-then-not-has_component t c =
    begin_none (components c.args.body.now) (components c.args.given.now) (refuted _ _ c.has_component.ensures.1 c.if-not-has_component.true)

pub returns-then-are_equal : goal.returns-then-are_equal
returns-then-are_equal t c =
    rw (c.begin_with.ensures, c.first.ensures.rest, c.first-2.ensures.rest)
    (begin_equal (components c.args.body.now) (components c.args.given.now) _ _ _ _ _ c.first.ensures.step c.first.ensures.place c.first-2.ensures.step c.first-2.ensures.place c.are_equal.ensures c.if-are_equal.true
    (there _ _ c.has_component.ensures.0 c.if-not-has_component.false))

pub returns-else-are_equal : goal.returns-else-are_equal
returns-else-are_equal t c =
    begin_unequal (components c.args.body.now) (components c.args.given.now) _ _ _ _ _ c.first.ensures.step c.first.ensures.place c.first-2.ensures.step c.first-2.ensures.place c.are_equal.ensures c.if-are_equal.false
    (there _ _ c.has_component.ensures.0 c.if-not-has_component.false)
