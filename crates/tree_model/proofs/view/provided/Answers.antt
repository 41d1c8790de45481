use Rattle.std.proofs.Common.{◌∙◌}
use Rattle.tree_model.proofs.Provided.{one_further, paths_whole, paths_with, paths_without}
use Rattle.tree_model.proofs.view.provided.Goals.{then-is_kind+in_ok-copy+in_ok-copied_keys+in_ok-push, else-is_kind}
use Rattle.tree_model.proofs.view.provided.Goals as goal

pub loop-item-preserved : goal.loop-item-preserved
loop-item-preserved c = record {
  within = one_further c.args.providers.now c.loop-item.at (c.in-Some.item.now, c.in-Some.rocks.now) c.in-Some.ensures.value;
  so_far = elim c.if-is_kind.branch [
    | then-is_kind+in_ok-copy+in_ok-copied_keys+in_ok-push w ↦
        w.paths-is ∙ paths_with c.args.kind c.args.providers.now c.loop-item.at (c.in-Some.item.now, c.in-Some.rocks.now) w.in_ok-copy.field-0 w.in_ok-copied_keys.field-0 c.loop-item.paths w.push.new.self c.in-Some.ensures.value
        w.if-is_kind.ensures w.in_ok-copy.ensures w.in_ok-copied_keys.ensures c.loop-item.invariant.so_far w.in_ok-push.ensures.ok
    | else-is_kind w ↦
        w.paths-is ∙ paths_without c.args.kind c.args.providers.now c.loop-item.at (c.in-Some.item.now, c.in-Some.rocks.now) c.loop-item.paths c.in-Some.ensures.value w.if-is_kind.ensures c.loop-item.invariant.so_far
  ];
}

pub returns : goal.returns
returns c = paths_whole c.args.kind c.args.providers.now c.loop-item.at c.loop-item.paths c.in_default.ensures.value c.loop-item.invariant.so_far
