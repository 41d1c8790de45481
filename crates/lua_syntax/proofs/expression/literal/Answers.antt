use Rattle.std.proofs.Common.{rules}
use Rattle.lua_syntax.proofs.Readers.{literal_nil, literal_true, literal_false, literal_int, literal_text}
use Rattle.lua_syntax.proofs.expression.literal.Goals as goal

pub returns-in-Keyword-Nil-clause-ok : goal.returns-in-Keyword-Nil-clause-ok
returns-in-Keyword-Nil-clause-ok c = literal_nil c.args.token.now (search rules)

pub returns-in-Keyword-True-clause-ok : goal.returns-in-Keyword-True-clause-ok
returns-in-Keyword-True-clause-ok c = literal_true c.args.token.now (search rules)

pub returns-in-Keyword-False-clause-ok : goal.returns-in-Keyword-False-clause-ok
returns-in-Keyword-False-clause-ok c = literal_false c.args.token.now (search rules)

pub returns-in-Int-clause-ok : goal.returns-in-Int-clause-ok
returns-in-Int-clause-ok c = literal_int c.args.token.now c.in-Int.number c.in-Int.is

pub returns-in_ok-copy-in-Text-clause-ok : goal.returns-in_ok-copy-in-Text-clause-ok
returns-in_ok-copy-in-Text-clause-ok c = literal_text c.args.token.now _ _ c.in-Text.is c.in_ok-copy-in-Text.ensures
