use Rattle.std.proofs.Common.{List, subst, sym}
use Rattle.std.proofs.lemmas.List.{take_all}
use Rattle.std.specs.List.Sorted.{IsPermutation}
use Rattle.rocks_text.specs.declared.item.Item.{Item}
use Rattle.rocks_version.specs.declared.key.RockKey.{RockKey}
use Rattle.providers.specs.Lists.{AreProviders}
use Rattle.tree_model.specs.Held.{pairs_of}
use Rattle.tree_model.proofs.ItemPairs.{distinct_pairs, moved_pairs, not_before, one_more}
use Rattle.tree_model.proofs.index.providers_of.Goals as goal

pub insert-requires : goal.insert-requires
insert-requires c = record {
  absent = λ has.
      let pairs = c.deref-item-items.result.now in
      let pair = c.loop-item-item.result in
      let moved = subst (λ (l : List (Item × RockKey)). IsPermutation (pairs_of c.args.entries.now) l) (sym c.deref-item-items.ensures.value) c.in_ok-pairs.ensures.same in
      not_before pairs c.loop-item.item-index pair (distinct_pairs c.args.entries.now pairs c.requires moved) c.loop-item-test.true c.loop-item-item.is
      ((c.loop-item.invariant.all pair.0 pair.1).1 has);
}

pub loop-item-preserved : goal.loop-item-preserved
loop-item-preserved c =
    one_more c.deref-item-items.result.now c.loop-item.item-index c.loop-item-item.result c.insert.new.self c.loop-item-test.true c.loop-item-item.is
    (c.in_ok-insert.ensures.ok _ c.loop-item.invariant)

pub returns : goal.returns
returns c =
    let pairs = c.deref-item-items.result.now in
    let moved = subst (λ (l : List (Item × RockKey)). IsPermutation (pairs_of c.args.entries.now) l) (sym c.deref-item-items.ensures.value) c.in_ok-pairs.ensures.same in
    moved_pairs pairs (pairs_of c.args.entries.now) c.loop-item.providers moved
    (subst (λ (l : List (Item × RockKey)). AreProviders l c.loop-item.providers) (take_all c.loop-item.item-index pairs c.loop-item-test.false) c.loop-item.invariant)
