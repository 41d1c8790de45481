use Rattle.std.proofs.Common.{◌∙◌, arith}
use Rattle.lua_lexer.proofs.Whole.{lexed, list_lexed, only_list, never_fault, never_list, has_its_fault, only_its_fault}
use Rattle.lua_lexer.proofs.TokenLoop.{lies_within}
use Rattle.lua_lexer.proofs.Lexing.{lex_sound}
use Rattle.lua_lexer.proofs.lexer.tokens.Goals as goal

pub from_vec-requires : goal.from_vec-requires
from_vec-requires c = list_lexed c.args.text.now c.in-Ok.tokens.items (λ k. omega (arith, c.type_inv.text k)) c.if-text-gt-LONGEST.false c.in-Ok.ensures

pub fault-requires-clause-within : goal.fault-requires-clause-within
fault-requires-clause-within c = lies_within c.args.text.now c.in-Err.stop c.in-Err.ensures

pub returns-in-Ok-clause-ok : goal.returns-in-Ok-clause-ok
returns-in-Ok-clause-ok c = rw c.from_vec.ensures (lex_sound c.args.text.now c.in-Ok.tokens.items (lexed c.args.text.now c.in-Ok.tokens.items c.if-text-gt-LONGEST.false c.in-Ok.ensures))

pub returns-in-Ok-clause-promised : goal.returns-in-Ok-clause-promised
returns-in-Ok-clause-promised c = rw c.from_vec.ensures (list_lexed c.args.text.now c.in-Ok.tokens.items (λ k. omega (arith, c.type_inv.text k)) c.if-text-gt-LONGEST.false c.in-Ok.ensures)

pub returns-in-Ok-clause-only : goal.returns-in-Ok-clause-only
returns-in-Ok-clause-only c = λ tokens s. c.from_vec.ensures ∙ only_list c.args.text.now c.in-Ok.tokens.items tokens (lexed c.args.text.now c.in-Ok.tokens.items c.if-text-gt-LONGEST.false c.in-Ok.ensures) s

pub returns-in-Ok-clause-only_fault : goal.returns-in-Ok-clause-only_fault
returns-in-Ok-clause-only_fault c = λ fault h. never_fault c.args.text.now c.in-Ok.tokens.items fault (lexed c.args.text.now c.in-Ok.tokens.items c.if-text-gt-LONGEST.false c.in-Ok.ensures) h

pub returns-in-Err-clause-only : goal.returns-in-Err-clause-only
returns-in-Err-clause-only c = λ tokens s. never_list c.args.text.now c.in-Err.stop c.fault.result tokens c.if-text-gt-LONGEST.false c.in-Err.ensures c.fault.ensures s

pub returns-in-Err-clause-fault : goal.returns-in-Err-clause-fault
returns-in-Err-clause-fault c = has_its_fault c.args.text.now c.in-Err.stop c.fault.result c.if-text-gt-LONGEST.false c.in-Err.ensures c.fault.ensures

pub returns-in-Err-clause-only_fault : goal.returns-in-Err-clause-only_fault
returns-in-Err-clause-only_fault c = λ fault h. only_its_fault c.args.text.now c.in-Err.stop c.fault.result fault c.if-text-gt-LONGEST.false c.in-Err.ensures c.fault.ensures h
