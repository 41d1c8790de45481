use Rattle.std.proofs.lemmas.Result.{err_from_is_err_and}
use Rattle.lua_syntax.proofs.StatementStops.{assigned_nameless, unassigned, assigned_fails, assigned_leads, kept_assigned}
use Rattle.lua_syntax.proofs.Statements.{assigned}
use Rattle.lua_syntax.proofs.statement.assignment.Goals as goal

pub returns-clause-ok : goal.returns-clause-ok
returns-clause-ok c = assigned _ _ _ _ _ _ _ c.in_ok-names.ensures.ok c.in_ok-rest.ensures c.in_ok-values.ensures.ok

pub returns-in_err-names-clause-fails : goal.returns-in_err-names-clause-fails
returns-in_err-names-clause-fails c =
    let p = err_from_is_err_and c.from_residual.result c.from_residual.ensures.1 in rw (p.1, p.2) (λ before done state at. assigned_nameless _ _ _ _ at _ c.requires.named c.in_err-names.ensures.fails)

pub returns-in_err-rest-clause-fails : goal.returns-in_err-rest-clause-fails
returns-in_err-rest-clause-fails c =
    let p = err_from_is_err_and c.from_residual-in_err-rest.result c.from_residual-in_err-rest.ensures.1 in rw (p.1, p.2) (λ before done state at. unassigned _ _ _ _ at _ _ _ c.in_ok-names.ensures.ok c.in_ok-names.ensures.ends c.in_err-rest.ensures)

pub returns-in_err-values-clause-fails : goal.returns-in_err-values-clause-fails
returns-in_err-values-clause-fails c =
    let p = err_from_is_err_and c.from_residual-in_err-values.result c.from_residual-in_err-values.ensures.1 in rw (p.1, p.2) (λ before done state at. assigned_fails _ _ _ _ at _ _ _ _ c.in_ok-names.ensures.ok c.in_ok-rest.ensures c.in_err-values.ensures.fails)

pub returns-clause-keeps : goal.returns-clause-keeps
returns-clause-keeps c =
    kept_assigned _ _ _ _ _ c.in_ok-names.ensures.ok c.in_ok-rest.ensures c.in_ok-values.ensures.keeps

pub returns-clause-leads : goal.returns-clause-leads
returns-clause-leads c =
    λ before done state at. assigned_leads _ _ _ _ at _ _ _ _ _ _ c.in_ok-names.ensures.ok c.in_ok-rest.ensures c.in_ok-values.ensures.ok c.in_ok-values.ensures.ends.0 c.in_ok-values.ensures.ends.1
