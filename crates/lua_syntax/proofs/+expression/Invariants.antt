use Rattle.std.proofs.Common.{◌+◌, ◌*◌, length}
use Rattle.lua_syntax.specs.Brackets.{Keeps}
use Rattle.lua_syntax.proofs.Loops.{OperandsSo, SuffixesSo, FieldsSo}
use Rattle.lua_syntax.proofs.+expression.Given as goal

abbrev pub decreases-expression::base : goal.decreases-expression::base
decreases-expression::base l = length l.tokens.now * 8 + 1

abbrev pub decreases-expression::bracketed : goal.decreases-expression::bracketed
decreases-expression::bracketed l = length l.tokens.now * 8 + 5

abbrev pub decreases-expression::expression : goal.decreases-expression::expression
decreases-expression::expression l = length l.tokens.now * 8 + 4

abbrev pub decreases-expression::prefix : goal.decreases-expression::prefix
decreases-expression::prefix l = length l.tokens.now * 8 + 2

abbrev pub decreases-expression::simple : goal.decreases-expression::simple
decreases-expression::simple l = length l.tokens.now * 8 + 3

abbrev pub decreases-expression::suffix : goal.decreases-expression::suffix
decreases-expression::suffix l = length l.tokens.now * 8

abbrev pub decreases-table::field : goal.decreases-table::field
decreases-table::field l = length l.tokens.now * 8 + 6

abbrev pub decreases-table::field_key : goal.decreases-table::field_key
decreases-table::field_key l = length l.tokens.now * 8

abbrev pub decreases-table::table : goal.decreases-table::table
decreases-table::table l = length l.tokens.now * 8 + 7

abbrev pub invariant-expression::expression-loop-place : goal.invariant-expression::expression-loop-place
invariant-expression::expression-loop-place l = OperandsSo l.tokens l.operand l.others.items l.operators.items l.ending l.rest × Keeps l.depth l.tokens l.rest

abbrev pub decreases-expression::expression-loop-place : goal.decreases-expression::expression-loop-place
decreases-expression::expression-loop-place l = length l.rest

abbrev pub invariant-expression::prefix-loop-suffixes : goal.invariant-expression::prefix-loop-suffixes
invariant-expression::prefix-loop-suffixes l = SuffixesSo l.tokens l.base l.suffixes.items l.rest × Keeps l.depth l.tokens l.rest

abbrev pub decreases-expression::prefix-loop-suffixes : goal.decreases-expression::prefix-loop-suffixes
decreases-expression::prefix-loop-suffixes l = length l.rest

abbrev pub invariant-table::table-loop-behind : goal.invariant-table::table-loop-behind
invariant-table::table-loop-behind l = FieldsSo l.tokens l.fields.items l.rest × Keeps l.depth l.tokens l.rest

abbrev pub decreases-table::table-loop-behind : goal.decreases-table::table-loop-behind
decreases-table::table-loop-behind l = length l.rest
