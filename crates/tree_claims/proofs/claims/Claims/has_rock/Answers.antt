use Rattle.std.proofs.Common.{◌∙◌}
use Rattle.tree_claims.proofs.Held.{tells_rock}
use Rattle.tree_claims.proofs.claims.Claims.has_rock.Goals as goal

pub returns : goal.returns
returns c = tells_rock c.args.key.now c.deref.result.now c.args.self.now c.has_rock.result (c.deref.ensures.value ∙ c.self.view_is) c.has_rock.ensures
