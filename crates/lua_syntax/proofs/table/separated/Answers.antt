use Rattle.std.proofs.Common.{◌≡◌, rules, refl, inr}
use Rattle.lua_lexer.specs.declared.token.TokenKind.TheVariants as kinds
use Rattle.lua_lexer.specs.declared.vocabulary.Symbol.TheVariants as symbols
use Rattle.lua_syntax.proofs.Ends.{behind_symbol}
use Rattle.lua_syntax.proofs.table.separated.Goals as goal

pub returns-in-Symbol-CloseBrace-clause-ok : goal.returns-in-Symbol-CloseBrace-clause-ok
returns-in-Symbol-CloseBrace-clause-ok c =
    let is : c.first.result.0.now.kind ≡ kinds.Symbol symbols.CloseBrace = search rules in
    inr (
      refl,
      (
        c.first.result.0.now.place,
        c.first.result.1.now,
        record {
          token = c.first.result.0.now;
          cut = c.first.ensures;
          is = is;
          place_is = refl;
          ends = λ ends. behind_symbol c.first.result.0.now c.first.result.1.now symbols.CloseBrace is (rw c.first.ensures at ends);
        },
      ),
    )
