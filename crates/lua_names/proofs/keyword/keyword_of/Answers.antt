use Rattle.std.proofs.Common.{◌≡◌, refl, arith, rules}
use Rattle.std.specs.Prelude.{codes}
use Rattle.std.proofs.lemmas.Slice.Eq.{text_from_reads}
use Rattle.lua_names.specs.Keywords.{keyword_of}
use Rattle.lua_names.proofs.keyword.keyword_of.Goals as goal

pub returns-in-break : goal.returns-in-break
unfolding keyword_of
returns-in-break c = let e : c.args.word.now ≡ codes "break" = text_from_reads c.args.word.now (codes "break") (omega arith) (search rules) in rw e refl

pub returns-in-false : goal.returns-in-false
unfolding keyword_of
returns-in-false c = let e : c.args.word.now ≡ codes "false" = text_from_reads c.args.word.now (codes "false") (omega arith) (search rules) in rw e refl

pub returns-in-local : goal.returns-in-local
unfolding keyword_of
returns-in-local c = let e : c.args.word.now ≡ codes "local" = text_from_reads c.args.word.now (codes "local") (omega arith) (search rules) in rw e refl

pub returns-in-until : goal.returns-in-until
unfolding keyword_of
returns-in-until c = let e : c.args.word.now ≡ codes "until" = text_from_reads c.args.word.now (codes "until") (omega arith) (search rules) in rw e refl

pub returns-in-while : goal.returns-in-while
unfolding keyword_of
returns-in-while c = let e : c.args.word.now ≡ codes "while" = text_from_reads c.args.word.now (codes "while") (omega arith) (search rules) in rw e refl

pub returns-in-elseif : goal.returns-in-elseif
unfolding keyword_of
returns-in-elseif c = let e : c.args.word.now ≡ codes "elseif" = text_from_reads c.args.word.now (codes "elseif") (omega arith) (search rules) in rw e refl

pub returns-in-repeat : goal.returns-in-repeat
unfolding keyword_of
returns-in-repeat c = let e : c.args.word.now ≡ codes "repeat" = text_from_reads c.args.word.now (codes "repeat") (omega arith) (search rules) in rw e refl

pub returns-in-return : goal.returns-in-return
unfolding keyword_of
returns-in-return c = let e : c.args.word.now ≡ codes "return" = text_from_reads c.args.word.now (codes "return") (omega arith) (search rules) in rw e refl

pub returns-in-function : goal.returns-in-function
unfolding keyword_of
returns-in-function c = let e : c.args.word.now ≡ codes "function" = text_from_reads c.args.word.now (codes "function") (omega arith) (search rules) in rw e refl
