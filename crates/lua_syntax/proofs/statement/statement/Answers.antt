use Rattle.std.proofs.Common.{refl, rules}
use Rattle.std.proofs.lemmas.Result.{err_from_is_err_and}
use Rattle.lua_lexer.specs.declared.token.TokenKind.TheVariants as kinds
use Rattle.lua_lexer.specs.declared.vocabulary.Symbol.TheVariants as symbols
use Rattle.lua_names.specs.declared.keyword.Keyword.TheVariants as keywords
use Rattle.lua_syntax.proofs.Levels.{keeps_then}
use Rattle.lua_syntax.proofs.Statements.{statement_semicolon, statement_local}
use Rattle.lua_syntax.proofs.StatementStops.{begins_named, semicolon_leads, statement_local_leads, statement_local_fails, no_statement_fails, kept_first}
use Rattle.lua_syntax.proofs.statement.statement.Goals as goal

pub returns-in-Some-clause-ok : goal.returns-in-Some-clause-ok
returns-in-Some-clause-ok c =
    let h = c.in-Some.ensures in statement_semicolon c.args.tokens.now h.token c.in-Some.rest.now c.requires.ended h.cut h.is

pub returns-in-Some-clause-keeps : goal.returns-in-Some-clause-keeps
returns-in-Some-clause-keeps c =
    let h = c.in-Some.ensures in kept_first _ _ _ (kinds.Symbol symbols.Semicolon) h.cut h.is refl

pub returns-in-Some-clause-leads : goal.returns-in-Some-clause-leads
returns-in-Some-clause-leads c =
    let h = c.in-Some.ensures in λ done state at. semicolon_leads _ _ done state at _ _ h.cut h.is

pub returns-then-is_local-clause-ok : goal.returns-then-is_local-clause-ok
returns-then-is_local-clause-ok c =
    statement_local c.args.tokens.now c.first.result.0.now c.first.result.1.now c.in_ok-statement.statement _ c.first.ensures (search rules) c.in_ok-statement.ensures.ok

pub returns-then-is_local-clause-keeps : goal.returns-then-is_local-clause-keeps
returns-then-is_local-clause-keeps c =
    keeps_then _ _ _ _ (kept_first _ _ _ (kinds.Keyword keywords.Local) c.first.ensures (search rules) refl) c.in_ok-statement.ensures.keeps

pub returns-then-is_local-clause-leads : goal.returns-then-is_local-clause-leads
returns-then-is_local-clause-leads c =
    λ done state at. statement_local_leads _ _ done state at _ _ _ _ _ c.first.ensures (search rules) (c.in_ok-statement.ensures.leads done)

pub returns-in_err-statement-clause-fails : goal.returns-in_err-statement-clause-fails
returns-in_err-statement-clause-fails c =
    let p = err_from_is_err_and c.from_residual.result c.from_residual.ensures.1 in rw (p.1, p.2) (λ done state at. statement_local_fails _ _ done state at _ _ _ c.first.ensures (search rules) (c.in_err-statement.ensures.fails done))

pub assignment-requires-clause-named : goal.assignment-requires-clause-named
assignment-requires-clause-named c =
    begins_named _ _ _ _ c.first.ensures c.in-Some-name_of.ensures

pub returns-in_ok-statement-in-Some-name_of-clause-leads : goal.returns-in_ok-statement-in-Some-name_of-clause-leads
returns-in_ok-statement-in-Some-name_of-clause-leads c =
    λ done state at. c.in_ok-statement-in-Some-name_of.ensures.leads _ done state at

pub returns-in_err-statement-in-Some-name_of-clause-fails : goal.returns-in_err-statement-in-Some-name_of-clause-fails
returns-in_err-statement-in-Some-name_of-clause-fails c =
    let p = err_from_is_err_and c.from_residual-in_err-statement-in-Some-name_of.result c.from_residual-in_err-statement-in-Some-name_of.ensures.1 in rw (p.1, p.2) (λ done state at. c.in_err-statement-in-Some-name_of.ensures.fails _ done state at)

pub returns-in-None-clause-fails : goal.returns-in-None-clause-fails
returns-in-None-clause-fails c =
    λ done state at. no_statement_fails _ _ done state at c.first.result.0.now c.first.result.1.now _ c.first.ensures
    (c.in_default.ensures c.first.result.0.now c.first.result.1.now c.first.ensures) (search rules)
    (c.requires.some c.first.result.0.now c.first.result.1.now c.first.ensures) c.in-None.ensures (rw c.positions.ensures at c.refused.ensures)
