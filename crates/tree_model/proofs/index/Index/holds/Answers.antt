use Rattle.std.proofs.Common.{◌∙◌}
use Rattle.tree_model.proofs.Changing.{tells_key}
use Rattle.tree_model.proofs.index.Index.holds.Goals as goal

pub returns : goal.returns
returns c = tells_key c.args.key.now c.deref.result.now c.args.self.now c.has_key.result (c.deref.ensures.value ∙ c.self.view_is) c.has_key.ensures
