use Rattle.tree_manifest.proofs.Again.{one_text}
use Rattle.tree_manifest.proofs.laws.one_view.Goals as goal

pub returns : goal.returns
returns c = one_text
