use Rattle.std.proofs.lemmas.Result.{err_from_is_err_and}
use Rattle.lua_syntax.proofs.StatementStops.{local_nameless, local_fails, local_leads, local_alone_leads, kept_assigned, kept_names}
use Rattle.lua_syntax.proofs.Statements.{local_assigned, local_named}
use Rattle.lua_syntax.proofs.statement.local.Goals as goal

pub returns-in_ok-values-in-Some-clause-ok : goal.returns-in_ok-values-in-Some-clause-ok
returns-in_ok-values-in-Some-clause-ok c = local_assigned _ _ _ _ _ _ _ _ c.in_ok-names.ensures.ok c.in-Some.ensures c.in_ok-values-in-Some.ensures.ok

pub returns-in-None-clause-ok : goal.returns-in-None-clause-ok
returns-in-None-clause-ok c = rw c.new-values.ensures (local_named _ _ _ c.in_ok-names.ensures.ok)

pub returns-in_err-names-clause-fails : goal.returns-in_err-names-clause-fails
returns-in_err-names-clause-fails c =
    let p = err_from_is_err_and c.from_residual.result c.from_residual.ensures.1 in rw (p.1, p.2) (λ done. local_nameless _ done _ c.in_err-names.ensures.fails)

pub returns-in_err-values-in-Some-clause-fails : goal.returns-in_err-values-in-Some-clause-fails
returns-in_err-values-in-Some-clause-fails c =
    let p = err_from_is_err_and c.from_residual-in_err-values-in-Some.result c.from_residual-in_err-values-in-Some.ensures.1 in rw (p.1, p.2) (λ done. local_fails _ done _ _ _ _ c.in_ok-names.ensures.ok (_, c.in-Some.ensures) c.in_err-values-in-Some.ensures.fails)

pub returns-in_ok-values-in-Some-clause-keeps : goal.returns-in_ok-values-in-Some-clause-keeps
returns-in_ok-values-in-Some-clause-keeps c =
    kept_assigned _ _ _ _ _ c.in_ok-names.ensures.ok (_, c.in-Some.ensures) c.in_ok-values-in-Some.ensures.keeps

pub returns-in_ok-values-in-Some-clause-leads : goal.returns-in_ok-values-in-Some-clause-leads
returns-in_ok-values-in-Some-clause-leads c =
    λ done. local_leads _ done _ _ _ _ _ _ c.in_ok-names.ensures.ok (_, c.in-Some.ensures) c.in_ok-values-in-Some.ensures.ok c.in_ok-values-in-Some.ensures.ends.0 c.in_ok-values-in-Some.ensures.ends.1

pub returns-in-None-clause-keeps : goal.returns-in-None-clause-keeps
returns-in-None-clause-keeps c =
    kept_names _ _ _ c.in_ok-names.ensures.ok

pub returns-in-None-clause-leads : goal.returns-in-None-clause-leads
returns-in-None-clause-leads c =
    rw c.new-values.ensures (λ done. local_alone_leads _ done _ _ c.in_ok-names.ensures.ok c.in_ok-names.ensures.ends c.in-None.ensures)
