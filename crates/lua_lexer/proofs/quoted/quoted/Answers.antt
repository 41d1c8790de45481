use Rattle.std.proofs.Common.{length}
use Rattle.std.proofs.lemmas.Result.{err_from_is_err_and}
use Rattle.lua_lexer.specs.Reading.{quoted_at}
use Rattle.lua_lexer.proofs.Pieces.{piece_shrinks}
use Rattle.lua_lexer.proofs.QuotedLoop.{piece_goes_on, piece_is_end, piece_stops, piece_meaning_small}
use Rattle.lua_lexer.proofs.quoted.quoted.Goals as goal

pub returns-in_err-meaning : goal.returns-in_err-meaning
returns-in_err-meaning c =
    let p = err_from_is_err_and c.from_residual.result c.from_residual.ensures.1 in
    rw (p.1, p.2) (piece_stops c.in-Some.quote.now (length c.args.bytes.now) c.in_err-meaning.field-0.0 c.loop-text.text.items c.loop-text.rest.now (quoted_at c.args.bytes.now) c.in_err-meaning.ensures c.loop-text.invariant)

pub push_meaning-requires : goal.push_meaning-requires
push_meaning-requires c =
    let e = rw c.in-Some-meaning.is at c.in_ok-meaning.ensures in
    piece_meaning_small c.in-Some.quote.now (length c.args.bytes.now) c.loop-text.rest.now c.in-Some-meaning.meaning c.in_ok-meaning.after.now e

pub loop-text-smaller : goal.loop-text-smaller
loop-text-smaller c =
    let e = rw c.in-Some-meaning.is at c.in_ok-meaning.ensures in
    piece_shrinks c.in-Some.quote.now (length c.args.bytes.now) c.loop-text.rest.now c.in-Some-meaning.meaning c.in_ok-meaning.after.now e

pub loop-text-preserved : goal.loop-text-preserved
loop-text-preserved c =
    let e = rw c.in-Some-meaning.is at c.in_ok-meaning.ensures in
    rw c.in_ok-push_meaning-in-Some-meaning.ensures
    (piece_goes_on c.in-Some.quote.now (length c.args.bytes.now) c.loop-text.text.items c.loop-text.rest.now c.in-Some-meaning.meaning c.in_ok-meaning.after.now (quoted_at c.args.bytes.now) e c.loop-text.invariant)

pub returns-in-None : goal.returns-in-None
returns-in-None c =
    let e = rw c.in-None.is at c.in_ok-meaning.ensures in
    piece_is_end c.in-Some.quote.now (length c.args.bytes.now) c.loop-text.text.items c.loop-text.rest.now c.in_ok-meaning.after.now (quoted_at c.args.bytes.now) e c.loop-text.invariant
