use Rattle.tree_model.proofs.Changing.{put_there, put_within}
use Rattle.tree_model.proofs.changes.put.Goals as goal

pub insert-requires : goal.insert-requires
insert-requires c =
    put_within c.args.entry.key c.args.entries.now.items c.deref.result.now c.count_before-at.result _ c.count_before-at.ensures c.deref.ensures.value c.args.entries.now.ok.0

pub returns : goal.returns
returns c =
    put_there c.args.entry c.args.entries.now.items c.deref.result.now c.insert.new.self.items c.count_before-at.result c.in_ok-insert.ensures.items c.count_before-at.ensures c.deref.ensures.value
