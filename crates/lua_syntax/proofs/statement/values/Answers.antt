use Rattle.std.proofs.lemmas.Result.{err_from_is_err_and}
use Rattle.std.proofs.Common.{arith}
use Rattle.lua_lexer.specs.declared.vocabulary.Symbol.TheVariants as symbols
use Rattle.lua_syntax.proofs.Kept.{kept_behind, comma_flat}
use Rattle.lua_syntax.proofs.Levels.{keeps_then}
use Rattle.lua_syntax.proofs.StatementStops.{value_fails}
use Rattle.lua_syntax.proofs.Statements.{values_begin, values_go_on}
use Rattle.lua_syntax.proofs.statement.values.Goals as goal

pub loop-after-init : goal.loop-after-init
loop-after-init c = rw (c.in_ok-push.ensures.ok, c.new-values.ensures) (values_begin _ _ _ _ c.in_ok-value.ensures.ok, c.in_ok-value.ensures.keeps, c.in_ok-value.ensures.ends)

pub loop-after-preserved : goal.loop-after-preserved
loop-after-preserved c = rw c.in_ok-push-2.ensures.ok (
  values_go_on _ _ _ _ _ _ _ _ _ c.loop-after.invariant.0 c.in-Some.ensures c.in_ok-value-2.ensures.ok,
  keeps_then _ _ _ _ c.loop-after.invariant.1 (kept_behind _ _ (omega arith) symbols.Comma _ _ _ comma_flat c.in-Some.ensures c.in_ok-value-2.ensures.keeps),
  c.in_ok-value-2.ensures.ends,
)

pub returns-in_err-value-2-clause-fails : goal.returns-in_err-value-2-clause-fails
returns-in_err-value-2-clause-fails c =
    let p = err_from_is_err_and c.from_residual-in_err-value-2.result c.from_residual-in_err-value-2.ensures.1 in rw (p.1, p.2) (value_fails _ _ _ _ _ _ _ c.loop-after.invariant.0 c.loop-after.invariant.1 c.in-Some.ensures c.in_err-value-2.ensures.fails)

pub returns-clause-ok : goal.returns-clause-ok
returns-clause-ok c =
    c.loop-after.invariant.0

pub returns-clause-keeps : goal.returns-clause-keeps
returns-clause-keeps c =
    c.loop-after.invariant.1

pub returns-clause-ends : goal.returns-clause-ends
returns-clause-ends c =
    (c.in_default.ensures, c.loop-after.invariant.2)
