use Rattle.std.proofs.Common.{◌+◌, ◌∙◌, ap}
use Rattle.lua_value.specs.declared.key.Key.TheVariants.{Int}
use Rattle.lua_value.specs.Pairs.{text_value, put}
use Rattle.manifest_text.specs.Text.{key_text}
use Rattle.manifest_text.proofs.Appended.{list_step}
use Rattle.manifest_text.proofs.tables.keys.Goals as goal

pub loop-at-preserved : goal.loop-at-preserved
loop-at-preserved c = (
  list_step (λ key. text_value (key_text key)) c.args.rocks.now c.loop-at.at c.index-rocks-at.result
      c.loop-at.table c.set_text.new.table c.loop-at-test.true c.index-rocks-at.is c.loop-at.invariant.0
      (c.in_ok-set_text.ensures.ok
      ∙ ap (λ text. put (Int (c.loop-at.at + 1)) (text_value text) c.loop-at.table)
      (c.as_bytes.ensures.value ∙ c.in_ok-text.ensures)),
  c.set_text.ensures.ordered,
)
