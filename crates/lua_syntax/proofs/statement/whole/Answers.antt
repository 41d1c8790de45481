use Rattle.std.proofs.lemmas.Result.{err_from_is_err_and}
use Rattle.std.proofs.Common.{[], sym}
use Rattle.std.proofs.lemmas.List.{append-nil}
use Rattle.lua_syntax.proofs.StatementStops.{runs_begin, runs_go_on, runs_fail, runs_low}
use Rattle.lua_syntax.proofs.Statements.{chunk_done, statements_begin, none_goes_on, some_goes_on, statement_shorter}
use Rattle.lua_syntax.proofs.statement.whole.Goals as goal

pub loop-statements-init : goal.loop-statements-init
loop-statements-init c = rw c.new-statements.ensures (statements_begin c.args.tokens.now c.requires, runs_begin c.args.tokens.now)

pub loop-statements-smaller-in_ok-push : goal.loop-statements-smaller-in_ok-push
loop-statements-smaller-in_ok-push c = statement_shorter c.loop-statements.rest.now c.in_ok-found.found c.in_ok-found.after.now c.in_ok-found.ensures.ok

pub loop-statements-preserved-in_ok-push : goal.loop-statements-preserved-in_ok-push
loop-statements-preserved-in_ok-push c =
    let found = rw c.in-Some.is at c.in_ok-found.ensures.ok in
    let led = rw c.in-Some.is at c.in_ok-found.ensures.leads in
    rw c.in_ok-push.ensures.ok
    (some_goes_on _ _ _ _ _ c.loop-statements.invariant.0 found, runs_go_on _ _ _ _ _ _ _ c.loop-statements.invariant.1 led c.in_ok-found.ensures.keeps)

pub loop-statements-smaller : goal.loop-statements-smaller
loop-statements-smaller c = statement_shorter c.loop-statements.rest.now c.in_ok-found.found c.in_ok-found.after.now c.in_ok-found.ensures.ok

pub loop-statements-preserved : goal.loop-statements-preserved
loop-statements-preserved c =
    let found = rw c.in_default-found.is at c.in_ok-found.ensures.ok in
    let led = rw c.in_default-found.is at c.in_ok-found.ensures.leads in (
      none_goes_on _ _ _ _ c.loop-statements.invariant.0 found,
      rw (sym (append-nil c.loop-statements.statements)) (runs_go_on _ _ _ _ _ [] _ c.loop-statements.invariant.1 led c.in_ok-found.ensures.keeps),
    )

pub returns-in-End-clause-low : goal.returns-in-End-clause-low
returns-in-End-clause-low c =
    runs_low _ _ _ _ _ _ c.loop-statements.invariant.1 c.loop-statements.invariant.0.ends c.first.ensures c.in-End.is

pub returns-in-End-clause-ok : goal.returns-in-End-clause-ok
returns-in-End-clause-ok c =
    chunk_done _ _ _ _ _ c.loop-statements.invariant.0 c.first.ensures c.in-End.is

pub returns-in_err-found-clause-fails : goal.returns-in_err-found-clause-fails
returns-in_err-found-clause-fails c =
    let p = err_from_is_err_and c.from_residual.result c.from_residual.ensures.1 in rw (p.1, p.2) (runs_fail _ _ _ _ _ c.loop-statements.invariant.1 c.in_err-found.ensures.fails)
