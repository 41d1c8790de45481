use Rattle.std.proofs.Common.{◌+◌, ◌∙◌, ap}
use Rattle.lua_value.specs.declared.key.Key.TheVariants.{Int}
use Rattle.lua_value.specs.Pairs.{table_value, put}
use Rattle.manifest_text.specs.Text.{need_pairs}
use Rattle.manifest_text.proofs.Appended.{list_step}
use Rattle.manifest_text.proofs.tables.needs.Goals as goal

pub loop-at-preserved : goal.loop-at-preserved
loop-at-preserved c = (
  list_step (λ need. table_value (need_pairs need)) c.args.needed.now c.loop-at.at c.index-needed-at.result
      c.loop-at.table c.insert.new.self c.loop-at-test.true c.index-needed-at.is c.loop-at.invariant.0
      (c.in_ok-insert.ensures.ok
      ∙ ap (λ ps. put (Int (c.loop-at.at + 1)) (table_value ps) c.loop-at.table) c.in_ok-need.ensures.value),
  c.insert.ensures.ordered,
)
