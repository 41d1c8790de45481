use Rattle.std.proofs.Common.{refl, arith}
use Rattle.std.proofs.lemmas.Result.{err_from_is_err_and}
use Rattle.lua_lexer.specs.declared.vocabulary.Symbol.TheVariants as symbols
use Rattle.lua_syntax.proofs.Stops.{base_refused, base_deep, base_inside, base_unclosed, square_deep, square_inside, square_unclosed, suffix_square, suffix_nameless, operand_fails, suffix_fails, table_fails}
use Rattle.lua_syntax.proofs.FieldStops.{named_leads, bracket_leads, field_value_fails, field_stops, key_square, key_nameless, key_unassigned, table_deep, table_field_fails}
use Rattle.lua_syntax.proofs.Levels.{keeps_none, keeps_then}
use Rattle.lua_syntax.proofs.Kept.{kept_named, kept_literal, kept_symbol, kept_behind, kept_dotted, kept_named_field, kept_separated, kept_opened, kept_inside, concat_flat, assign_flat, paren_closes, bracket_closes, brace_closes}
use Rattle.lua_syntax.proofs.Loops.{operands_begin, operands_go_on, operands_done, suffixes_begin, suffixes_go_on, suffixes_done, fields_begin, fields_go_on, fields_left, fields_done}
use Rattle.lua_syntax.proofs.Readers.{base_name, base_parentheses, bracketed_part, simple_table, simple_prefix, suffix_dotted, suffix_bracketed, key_position, key_named, key_bracketed, field_taken}
use Rattle.lua_syntax.proofs.+expression.Goals as goal

pub expression::base-returns-in-Some-clause-ok : goal.expression::base-returns-in-Some-clause-ok
expression::base-returns-in-Some-clause-ok t c = base_name c.args.tokens.now c.first.result.0.now c.first.result.1.now c.in-Some.name.now c.in_ok-copy.field-0 c.requires.ended c.first.ensures c.in-Some.ensures c.in_ok-copy.ensures

pub expression::base-returns-in_ok-rest-in-Some-after_symbol-clause-ok : goal.expression::base-returns-in_ok-rest-in-Some-after_symbol-clause-ok
expression::base-returns-in_ok-rest-in-Some-after_symbol-clause-ok t c =
    base_parentheses c.args.tokens.now _ _ _ _ _ _ c.in-Some-after_symbol.ensures c.in_ok-inner-in-Some-after_symbol.ensures.ok c.in_ok-rest-in-Some-after_symbol.ensures

pub expression::bracketed-returns-clause-ok : goal.expression::bracketed-returns-clause-ok
expression::bracketed-returns-clause-ok t c = bracketed_part c.args.tokens.now _ _ _ _ c.in_ok-key.ensures.ok c.in_ok-rest.ensures

pub expression::expression-loop-place-init : goal.expression::expression-loop-place-init
expression::expression-loop-place-init t c = rw (c.new-others.ensures.items, c.new-operators.ensures.items) (operands_begin _ _ _ _ c.in_ok-operand.ensures.ok, c.in_ok-operand.ensures.keeps)

pub expression::expression-loop-place-preserved : goal.expression::expression-loop-place-preserved
expression::expression-loop-place-preserved t c =
    rw (c.in_ok-push.ensures.items, c.in_ok-push-2.ensures.items) (
      operands_go_on _ _ _ _ _ _ c.loop-place.invariant.0 _ _ c.in-Some.ensures _ _ _ c.in_ok-other.ensures.ok,
      keeps_then _ _ _ _ c.loop-place.invariant.1 (kept_behind _ _ c.requires.low symbols.Concat _ _ _ concat_flat c.in-Some.ensures c.in_ok-other.ensures.keeps),
    )

pub expression::expression-returns-clause-ok : goal.expression::expression-returns-clause-ok
expression::expression-returns-clause-ok t c = rw c.in_ok-expression.ensures.ok (operands_done _ _ _ _ _ _ _ _ c.loop-place.invariant.0 c.first.ensures)

pub expression::prefix-loop-suffixes-init : goal.expression::prefix-loop-suffixes-init
expression::prefix-loop-suffixes-init t c = rw c.new-suffixes.ensures.items (suffixes_begin _ _ _ c.in_ok-base.ensures.ok, c.in_ok-base.ensures.keeps)

pub expression::prefix-loop-suffixes-preserved : goal.expression::prefix-loop-suffixes-preserved
expression::prefix-loop-suffixes-preserved t c =
    let found = rw c.in-Some.is at c.in_ok-suffix.ensures.ok in
    let kept = rw c.in-Some.is at c.in_ok-suffix.ensures.keeps in
    rw c.in_ok-push.ensures.items (suffixes_go_on _ _ _ _ c.loop-suffixes.invariant.0 _ _ found, keeps_then _ _ _ _ c.loop-suffixes.invariant.1 kept)

pub expression::prefix-returns-clause-ok : goal.expression::prefix-returns-clause-ok
expression::prefix-returns-clause-ok t c = let none = rw c.in_default.is at c.in_ok-suffix.ensures.ok in rw c.in_ok-prefix.ensures.ok (suffixes_done _ _ _ _ _ _ c.loop-suffixes.invariant.0 none c.first.ensures)

pub expression::simple-returns-in_ok-table-in-Some-after_symbol-clause-ok : goal.expression::simple-returns-in_ok-table-in-Some-after_symbol-clause-ok
expression::simple-returns-in_ok-table-in-Some-after_symbol-clause-ok t c = simple_table c.args.tokens.now _ _ _ _ c.in-Some-after_symbol.ensures c.in_ok-table-in-Some-after_symbol.ensures.ok

pub expression::simple-returns-in_ok-prefix-in-None-clause-ok : goal.expression::simple-returns-in_ok-prefix-in-None-clause-ok
expression::simple-returns-in_ok-prefix-in-None-clause-ok t c = simple_prefix c.args.tokens.now _ _ c.in_ok-prefix-in-None.ensures.ok

pub expression::suffix-returns-in-Some-clause-ok : goal.expression::suffix-returns-in-Some-clause-ok
expression::suffix-returns-in-Some-clause-ok t c = suffix_dotted c.args.tokens.now _ _ _ _ c.in-Some.ensures c.in_ok-named.ensures.ok

pub expression::suffix-returns-in_ok-key-in-Some-after_symbol-clause-ok : goal.expression::suffix-returns-in_ok-key-in-Some-after_symbol-clause-ok
expression::suffix-returns-in_ok-key-in-Some-after_symbol-clause-ok t c = suffix_bracketed c.args.tokens.now _ _ _ _ c.in-Some-after_symbol.ensures c.in_ok-key-in-Some-after_symbol.ensures.ok

pub table::field-returns-clause-ok : goal.table::field-returns-clause-ok
table::field-returns-clause-ok t c = field_taken c.args.tokens.now _ _ _ _ _ _ _ c.first.ensures c.in_ok-key.ensures.ok c.in_ok-value.ensures.ok

pub table::field_key-returns-in-Some-clause-ok : goal.table::field_key-returns-in-Some-clause-ok
table::field_key-returns-in-Some-clause-ok t c = key_bracketed c.args.tokens.now _ _ _ _ _ c.in-Some.ensures c.in_ok-key.ensures.ok c.in_ok-rest.ensures

pub table::field_key-returns-in-None-clause-ok : goal.table::field_key-returns-in-None-clause-ok
table::field_key-returns-in-None-clause-ok t c = key_position c.args.tokens.now c.requires.ended

pub table::field_key-returns-in_ok-key-in-Some-name_ahead-clause-ok : goal.table::field_key-returns-in_ok-key-in-Some-name_ahead-clause-ok
table::field_key-returns-in_ok-key-in-Some-name_ahead-clause-ok t c = key_named c.args.tokens.now _ _ _ c.in-Some-name_ahead.ensures c.in_ok-key-in-Some-name_ahead.ensures.ok

pub table::table-loop-behind-init : goal.table::table-loop-behind-init
table::table-loop-behind-init t c = rw c.new-fields.ensures.items (fields_begin c.args.tokens.now c.requires.ended, keeps_none _ _)

pub table::table-returns-in-Some-clause-ok : goal.table::table-returns-in-Some-clause-ok
table::table-returns-in-Some-clause-ok t c = rw c.from_vec.ensures (fields_done c.args.tokens.now _ _ c.args.place _ _ c.loop-behind.invariant.0 c.in-Some.ensures)

pub table::table-field-requires : goal.table::table-field-requires
table::table-field-requires t c = (omega (arith, fields_left c.args.tokens.now _ c.loop-behind.rest.now c.loop-behind.invariant.0), (c.loop-behind.invariant.0.ends, (omega arith, c.in_default.ensures)))

pub table::table-loop-behind-preserved : goal.table::table-loop-behind-preserved
table::table-loop-behind-preserved t c =
    rw c.in_ok-push.ensures.items (
      fields_go_on c.args.tokens.now _ _ _ _ _ _ c.loop-behind.invariant.0 c.in_default.ensures c.in_ok-field.ensures.ok c.in_ok-rest.ensures.ok,
      keeps_then _ _ _ _ c.loop-behind.invariant.1 (keeps_then _ _ _ _ c.in_ok-field.ensures.keeps (kept_separated _ _ (omega arith) _ c.in_ok-rest.ensures.ok)),
    )

pub expression::base-returns-in-Some-clause-keeps : goal.expression::base-returns-in-Some-clause-keeps
expression::base-returns-in-Some-clause-keeps t c = kept_named _ _ c.requires.low _ _ _ c.first.ensures c.in-Some.ensures

pub expression::base-returns-in_ok-rest-in-Some-after_symbol-clause-keeps : goal.expression::base-returns-in_ok-rest-in-Some-after_symbol-clause-keeps
expression::base-returns-in_ok-rest-in-Some-after_symbol-clause-keeps t c = kept_opened _ _ c.requires.low symbols.OpenParen _ _ _ refl c.in-Some-after_symbol.ensures (kept_inside _ _ c.requires.low symbols.CloseParen _ _ paren_closes (omega arith) (rw c.in_ok-depth-in-Some-after_symbol.ensures.0 at c.in_ok-inner-in-Some-after_symbol.ensures.keeps) c.in_ok-rest-in-Some-after_symbol.ensures)

pub expression::bracketed-returns-clause-keeps : goal.expression::bracketed-returns-clause-keeps
expression::bracketed-returns-clause-keeps t c = kept_inside _ _ c.requires.low symbols.CloseBracket _ _ bracket_closes (omega arith) (rw c.in_ok-depth.ensures.0 at c.in_ok-key.ensures.keeps) c.in_ok-rest.ensures

pub expression::expression-returns-clause-keeps : goal.expression::expression-returns-clause-keeps
expression::expression-returns-clause-keeps t c = c.loop-place.invariant.1

pub expression::prefix-returns-clause-keeps : goal.expression::prefix-returns-clause-keeps
expression::prefix-returns-clause-keeps t c = c.loop-suffixes.invariant.1

pub expression::simple-returns-in-Some-clause-keeps : goal.expression::simple-returns-in-Some-clause-keeps
expression::simple-returns-in-Some-clause-keeps t c =
    let found = rw c.in-Some.is at c.in_ok-kind.ensures.ok in kept_literal _ _ c.requires.low _ _ _ c.first.ensures found

pub expression::suffix-returns-in-Some-clause-keeps : goal.expression::suffix-returns-in-Some-clause-keeps
expression::suffix-returns-in-Some-clause-keeps t c = kept_dotted _ _ c.requires.low _ _ _ _ c.in-Some.ensures c.in_ok-named.ensures.ok

pub table::field-returns-clause-keeps : goal.table::field-returns-clause-keeps
table::field-returns-clause-keeps t c = keeps_then _ _ _ _ c.in_ok-key.ensures.keeps c.in_ok-value.ensures.keeps

pub table::field_key-returns-in-Some-clause-keeps : goal.table::field_key-returns-in-Some-clause-keeps
table::field_key-returns-in-Some-clause-keeps t c = keeps_then _ _ _ _ (kept_opened _ _ c.requires.low symbols.OpenBracket _ _ _ refl c.in-Some.ensures c.in_ok-key.ensures.keeps) (kept_symbol _ _ c.requires.low symbols.Assign _ _ assign_flat c.in_ok-rest.ensures.1)

pub table::field_key-returns-in_ok-key-in-Some-name_ahead-clause-keeps : goal.table::field_key-returns-in_ok-key-in-Some-name_ahead-clause-keeps
table::field_key-returns-in_ok-key-in-Some-name_ahead-clause-keeps t c = kept_named_field _ _ c.requires.low _ _ c.in-Some-name_ahead.ensures

pub table::table-returns-in-Some-clause-keeps : goal.table::table-returns-in-Some-clause-keeps
table::table-returns-in-Some-clause-keeps t c = kept_inside _ _ c.requires.low symbols.CloseBrace _ _ brace_closes (omega arith) (rw c.in_ok-depth.ensures.0 at c.loop-behind.invariant.1) (_, c.in-Some.ensures)

pub expression::base-returns-in-None-clause-fails : goal.expression::base-returns-in-None-clause-fails
expression::base-returns-in-None-clause-fails t c =
    base_refused _ _ _ _ _ c.first.ensures c.requires.other c.requires.no_table c.in-None.ensures c.in_default.ensures c.refused.ensures

pub expression::base-returns-in_err-depth-in-Some-after_symbol-clause-fails : goal.expression::base-returns-in_err-depth-in-Some-after_symbol-clause-fails
expression::base-returns-in_err-depth-in-Some-after_symbol-clause-fails t c =
    let p = err_from_is_err_and c.from_residual-in_err-depth-in-Some-after_symbol.result c.from_residual-in_err-depth-in-Some-after_symbol.ensures.1 in rw (p.1, p.2) (base_deep _ _ _ _ _ c.in-Some-after_symbol.ensures c.in_err-depth-in-Some-after_symbol.ensures.0 c.in_err-depth-in-Some-after_symbol.ensures.1)

pub expression::base-returns-in_err-inner-in-Some-after_symbol-clause-fails : goal.expression::base-returns-in_err-inner-in-Some-after_symbol-clause-fails
expression::base-returns-in_err-inner-in-Some-after_symbol-clause-fails t c =
    let p = err_from_is_err_and c.from_residual-in_err-inner-in-Some-after_symbol.result c.from_residual-in_err-inner-in-Some-after_symbol.ensures.1 in rw (p.1, p.2) (base_inside _ _ _ _ _ c.in-Some-after_symbol.ensures c.in_ok-depth-in-Some-after_symbol.ensures.1 (rw c.in_ok-depth-in-Some-after_symbol.ensures.0 at c.in_err-inner-in-Some-after_symbol.ensures.fails))

pub expression::base-returns-in_err-rest-in-Some-after_symbol-clause-fails : goal.expression::base-returns-in_err-rest-in-Some-after_symbol-clause-fails
expression::base-returns-in_err-rest-in-Some-after_symbol-clause-fails t c =
    let p = err_from_is_err_and c.from_residual-in_err-rest-in-Some-after_symbol.result c.from_residual-in_err-rest-in-Some-after_symbol.ensures.1 in rw (p.1, p.2) (base_unclosed _ _ _ _ _ _ _ _ c.in-Some-after_symbol.ensures c.in_ok-depth-in-Some-after_symbol.ensures.1 c.in_ok-inner-in-Some-after_symbol.ensures.ok (rw c.in_ok-depth-in-Some-after_symbol.ensures.0 at c.in_ok-inner-in-Some-after_symbol.ensures.keeps) c.in_ok-inner-in-Some-after_symbol.ensures.ends (rw c.positions.ensures at c.in_err-rest-in-Some-after_symbol.ensures))

pub expression::bracketed-returns-in_err-depth-clause-fails : goal.expression::bracketed-returns-in_err-depth-clause-fails
expression::bracketed-returns-in_err-depth-clause-fails t c =
    let p = err_from_is_err_and c.from_residual.result c.from_residual.ensures.1 in rw (p.1, p.2) (square_deep _ _ _ _ c.in_err-depth.ensures.0 c.in_err-depth.ensures.1)

pub expression::bracketed-returns-in_err-key-clause-fails : goal.expression::bracketed-returns-in_err-key-clause-fails
expression::bracketed-returns-in_err-key-clause-fails t c =
    let p = err_from_is_err_and c.from_residual-in_err-key.result c.from_residual-in_err-key.ensures.1 in rw (p.1, p.2) (square_inside _ _ _ _ c.in_ok-depth.ensures.1 (rw c.in_ok-depth.ensures.0 at c.in_err-key.ensures.fails))

pub expression::bracketed-returns-in_err-rest-clause-fails : goal.expression::bracketed-returns-in_err-rest-clause-fails
expression::bracketed-returns-in_err-rest-clause-fails t c =
    let p = err_from_is_err_and c.from_residual-in_err-rest.result c.from_residual-in_err-rest.ensures.1 in rw (p.1, p.2) (square_unclosed _ _ _ _ _ _ _ c.in_ok-depth.ensures.1 c.in_ok-key.ensures.ok (rw c.in_ok-depth.ensures.0 at c.in_ok-key.ensures.keeps) c.in_ok-key.ensures.ends (rw c.positions.ensures at c.in_err-rest.ensures))

pub expression::expression-returns-in_err-other-clause-fails : goal.expression::expression-returns-in_err-other-clause-fails
expression::expression-returns-in_err-other-clause-fails t c =
    let p = err_from_is_err_and c.from_residual-in_err-other.result c.from_residual-in_err-other.ensures.1 in rw (p.1, p.2) (operand_fails _ _ _ _ _ _ _ _ _ _ c.requires.low c.loop-place.invariant.0 c.loop-place.invariant.1 c.in-Some.ensures c.in_err-other.ensures.fails)

pub expression::prefix-returns-in_err-suffix-clause-fails : goal.expression::prefix-returns-in_err-suffix-clause-fails
expression::prefix-returns-in_err-suffix-clause-fails t c =
    let p = err_from_is_err_and c.from_residual-in_err-suffix.result c.from_residual-in_err-suffix.ensures.1 in rw (p.1, p.2) (suffix_fails _ _ _ _ _ _ c.loop-suffixes.invariant.0 c.loop-suffixes.invariant.1 c.in_err-suffix.ensures.fails)

pub expression::simple-returns-in_err-table-in-Some-after_symbol-clause-fails : goal.expression::simple-returns-in_err-table-in-Some-after_symbol-clause-fails
expression::simple-returns-in_err-table-in-Some-after_symbol-clause-fails t c =
    let p = err_from_is_err_and c.from_residual-in_err-table-in-Some-after_symbol.result c.from_residual-in_err-table-in-Some-after_symbol.ensures.1 in rw (p.1, p.2) (table_fails _ _ _ _ _ c.in-Some-after_symbol.ensures c.in_err-table-in-Some-after_symbol.ensures.fails)

pub expression::suffix-returns-in_err-key-in-Some-after_symbol-clause-fails : goal.expression::suffix-returns-in_err-key-in-Some-after_symbol-clause-fails
expression::suffix-returns-in_err-key-in-Some-after_symbol-clause-fails t c =
    let p = err_from_is_err_and c.from_residual-in_err-key-in-Some-after_symbol.result c.from_residual-in_err-key-in-Some-after_symbol.ensures.1 in rw (p.1, p.2) (suffix_square _ _ _ _ _ c.in-Some-after_symbol.ensures c.in_err-key-in-Some-after_symbol.ensures.fails)

pub expression::suffix-returns-in_err-named-clause-fails : goal.expression::suffix-returns-in_err-named-clause-fails
expression::suffix-returns-in_err-named-clause-fails t c =
    let p = err_from_is_err_and c.from_residual.result c.from_residual.ensures.1 in rw (p.1, p.2) (suffix_nameless _ _ _ _ _ c.requires.low c.in-Some.ensures c.in_err-named.ensures.fails)

pub table::field-returns-in_err-value-clause-fails : goal.table::field-returns-in_err-value-clause-fails
table::field-returns-in_err-value-clause-fails t c =
    let p = err_from_is_err_and c.from_residual-in_err-value.result c.from_residual-in_err-value.ensures.1 in rw (p.1, p.2) (field_value_fails _ _ _ _ _ c.in_ok-key.ensures.leads c.in_ok-key.ensures.keeps c.requires.some c.in_err-value.ensures.fails)

pub table::field-returns-clause-stops : goal.table::field-returns-clause-stops
table::field-returns-clause-stops t c =
    field_stops _ _ _ _ _ _ _ c.in_ok-key.ensures.leads c.in_ok-key.ensures.keeps c.requires.some c.in_ok-value.ensures.ok c.in_ok-value.ensures.keeps c.in_ok-value.ensures.ends

pub table::field_key-returns-in-Some-clause-leads : goal.table::field_key-returns-in-Some-clause-leads
table::field_key-returns-in-Some-clause-leads t c =
    bracket_leads _ _ _ c.in-Some.ensures _ _ _ c.in_ok-key.ensures.ok c.in_ok-rest.ensures

pub table::field_key-returns-in_err-key-clause-fails : goal.table::field_key-returns-in_err-key-clause-fails
table::field_key-returns-in_err-key-clause-fails t c =
    let p = err_from_is_err_and c.from_residual.result c.from_residual.ensures.1 in rw (p.1, p.2) (key_square _ _ _ _ _ c.in-Some.ensures c.in_err-key.ensures.fails)

pub table::field_key-returns-in_err-key-in-Some-name_ahead-clause-fails : goal.table::field_key-returns-in_err-key-in-Some-name_ahead-clause-fails
table::field_key-returns-in_err-key-in-Some-name_ahead-clause-fails t c =
    let p = err_from_is_err_and c.from_residual-in_err-key-in-Some-name_ahead.result c.from_residual-in_err-key-in-Some-name_ahead.ensures.1 in rw (p.1, p.2) (key_nameless _ _ _ _ _ c.in-Some-name_ahead.ensures c.in_err-key-in-Some-name_ahead.ensures.fails)

pub table::field_key-returns-in_err-rest-clause-fails : goal.table::field_key-returns-in_err-rest-clause-fails
table::field_key-returns-in_err-rest-clause-fails t c =
    let p = err_from_is_err_and c.from_residual-in_err-rest.result c.from_residual-in_err-rest.ensures.1 in rw (p.1, p.2) (key_unassigned _ _ _ _ _ _ _ c.in-Some.ensures c.in_ok-key.ensures.ok c.in_ok-key.ensures.keeps c.in_err-rest.ensures)

pub table::field_key-returns-in_ok-key-in-Some-name_ahead-clause-leads : goal.table::field_key-returns-in_ok-key-in-Some-name_ahead-clause-leads
table::field_key-returns-in_ok-key-in-Some-name_ahead-clause-leads t c =
    named_leads _ _ _ c.in-Some-name_ahead.ensures _ c.in_ok-key-in-Some-name_ahead.ensures.ok

pub table::table-returns-in_err-depth-clause-fails : goal.table::table-returns-in_err-depth-clause-fails
table::table-returns-in_err-depth-clause-fails t c =
    let p = err_from_is_err_and c.from_residual.result c.from_residual.ensures.1 in rw (p.1, p.2) (table_deep _ _ _ _ c.in_err-depth.ensures.0 c.in_err-depth.ensures.1)

pub table::table-returns-in_err-field-clause-fails : goal.table::table-returns-in_err-field-clause-fails
table::table-returns-in_err-field-clause-fails t c =
    let p = err_from_is_err_and c.from_residual-in_err-field.result c.from_residual-in_err-field.ensures.1 in rw (p.1, p.2) (table_field_fails _ _ _ _ _ _ c.in_ok-depth.ensures.1 c.loop-behind.invariant.0 (rw c.in_ok-depth.ensures.0 at c.loop-behind.invariant.1) c.in_default.ensures (rw c.in_ok-depth.ensures.0 at c.in_err-field.ensures.fails))

pub table::table-returns-in_err-rest-clause-fails : goal.table::table-returns-in_err-rest-clause-fails
table::table-returns-in_err-rest-clause-fails t c =
    let p = err_from_is_err_and c.from_residual-in_err-rest.result c.from_residual-in_err-rest.ensures.1 in rw (p.1, p.2) (table_field_fails _ _ _ _ _ _ c.in_ok-depth.ensures.1 c.loop-behind.invariant.0 (rw c.in_ok-depth.ensures.0 at c.loop-behind.invariant.1) c.in_default.ensures ((rw c.in_ok-depth.ensures.0 at c.in_ok-field.ensures.stops) _ c.in_err-rest.ensures.fails))
