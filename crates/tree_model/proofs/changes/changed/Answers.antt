use Rattle.tree_model.proofs.Changing.{changed_more}
use Rattle.tree_model.proofs.changes.changed.Goals as goal

pub loop-rock-preserved : goal.loop-rock-preserved
loop-rock-preserved c =
    changed_more c.args.added.now c.loop-rock.rock-index c.rock-item.result c.in_ok-of_rock.field-0 c.args.removed.now c.args.entries.now c.loop-rock.made.items c.put.new.entries.items c.loop-rock-test.true c.rock-item.is
    c.in_ok-of_rock.ensures c.loop-rock.invariant c.in_ok-put.ensures
