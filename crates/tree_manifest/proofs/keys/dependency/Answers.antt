use Rattle.std.proofs.lemmas.Result.{IfOk-weaker}
use Rattle.tree_manifest.proofs.Texts.{read_again, read_wanted}
use Rattle.tree_manifest.proofs.keys.dependency.Goals as goal

pub returns-clause-valid : goal.returns-clause-valid
returns-clause-valid c =
    IfOk-weaker c.read_unlimited.result _ _ (λ found is. read_wanted c.args.bytes.now found is)
    c.read_unlimited.ensures.read

pub returns-clause-known : goal.returns-clause-known
returns-clause-known c =
    read_again c.args.bytes.now c.read_unlimited.result c.read_unlimited.ensures.read c.read_unlimited.ensures.none
