use Rattle.std.proofs.Common.{◌∙◌, ap}
use Rattle.lua_value.specs.Pairs.{table_value}
use Rattle.manifest_text.specs.Text.{needs_pairs, put_rock}
use Rattle.manifest_text.proofs.Appended.{rocks_step}
use Rattle.manifest_text.proofs.tables.dependencies.Goals as goal

pub loop-rock-preserved : goal.loop-rock-preserved
loop-rock-preserved c = (
  rocks_step (λ rock. table_value (needs_pairs rock.dependencies)) c.args.rocks.now c.loop-rock.rock-index
      c.rock-item.result c.loop-rock.table c.set_rock.new.table c.loop-rock-test.true c.rock-item.is
      c.loop-rock.invariant.0
      (c.in_ok-set_rock.ensures.ok
      ∙ ap (λ ps. put_rock c.rock-item.result.key (table_value ps) c.loop-rock.table)
      (c.in_ok-needs.ensures.value ∙ ap needs_pairs c.as_slice.ensures)),
  c.set_rock.ensures.ordered,
)
