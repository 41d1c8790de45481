use Rattle.std.proofs.Common.{◌∙◌, ap}
use Rattle.lua_value.specs.declared.key.Key.TheVariants.{Text}
use Rattle.lua_value.specs.Pairs.{table_value, put}
use Rattle.manifest_text.specs.Text.{keys_pairs}
use Rattle.manifest_text.proofs.Appended.{provided_step}
use Rattle.manifest_text.proofs.tables.provided.Goals as goal

pub loop-path-preserved : goal.loop-path-preserved
loop-path-preserved c = (
  provided_step c.args.paths.now c.loop-path.path-index c.loop-path-item.result c.loop-path.table c.set.new.table
      c.loop-path-test.true c.loop-path-item.is c.loop-path.invariant.0
      (c.in_ok-set.ensures.ok
      ∙ ap (λ key. put (Text key) (table_value c.in_ok-keys.keys) c.loop-path.table)
      (c.as_bytes.ensures.value ∙ c.as_str.ensures.value)
      ∙ ap (λ ps. put (Text c.loop-path-item.result.0) (table_value ps) c.loop-path.table)
      (c.in_ok-keys.ensures.value ∙ ap keys_pairs c.as_slice.ensures)),
  c.set.ensures.ordered,
)
