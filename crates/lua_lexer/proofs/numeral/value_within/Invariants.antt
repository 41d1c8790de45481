use Rattle.std.proofs.Common.{◌≡◌, ◌≤◌, drop}
use Rattle.lua_lexer.specs.Alphabet.{value}
use Rattle.lua_lexer.proofs.DigitValues.{value_from}
use Rattle.lua_lexer.proofs.numeral.value_within.Given as goal

abbrev pub invariant-loop-digit : goal.invariant-loop-digit
invariant-loop-digit l = record {
  in_range : l.value ≤ l.limit;
  so_far : value_from l.base l.value (drop l.digit-index l.digits) ≡ value l.base l.digits;
}
