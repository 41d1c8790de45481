use Rattle.std.proofs.Common.{◌<◌, length, arith}
use Rattle.std.proofs.lemmas.Result.{err_from_is_err_and}
use Rattle.lua_lexer.specs.Reading.{tokens_at}
use Rattle.lua_lexer.proofs.TokenLoop.{begins, some_left, none_left, element_shrinks, gap_goes_on, token_goes_on, stop_listed, is_done}
use Rattle.lua_lexer.proofs.lexer.all.Goals as goal

pub loop-rest-init : goal.loop-rest-init
loop-rest-init c = record { in_range = omega arith; so_far = rw c.new-tokens.ensures.items (begins c.args.text.now) }

pub returns-in_err-kind : goal.returns-in_err-kind
returns-in_err-kind c =
    let p = err_from_is_err_and c.from_residual.result c.from_residual.ensures.1 in
    let some : 0 < length c.loop-rest.rest.now = some_left (length c.loop-rest.rest.now) c.loop-rest-test.ensures in
    rw (p.1, p.2) (stop_listed (length c.args.text.now) c.loop-rest.tokens.items c.loop-rest.rest.now (tokens_at c.args.text.now) some c.loop-rest.invariant.in_range c.loop-rest.invariant.so_far c.in_err-kind.field-0.0 c.in_err-kind.ensures)

pub loop-rest-smaller-in_ok-push : goal.loop-rest-smaller-in_ok-push
loop-rest-smaller-in_ok-push c =
    element_shrinks c.loop-rest.rest.now c.in_ok-kind.kind c.in_ok-kind.after.now (some_left (length c.loop-rest.rest.now) c.loop-rest-test.ensures) c.in_ok-kind.ensures

pub loop-rest-preserved-in_ok-push : goal.loop-rest-preserved-in_ok-push
loop-rest-preserved-in_ok-push c =
    let some : 0 < length c.loop-rest.rest.now = some_left (length c.loop-rest.rest.now) c.loop-rest-test.ensures in
    let shorter = element_shrinks c.loop-rest.rest.now c.in_ok-kind.kind c.in_ok-kind.after.now some c.in_ok-kind.ensures in
    let e = rw c.in-Some.is at c.in_ok-kind.ensures in
    record {
      in_range = omega arith;
      so_far = rw c.in_ok-push.ensures.items (token_goes_on (length c.args.text.now) c.loop-rest.tokens.items c.loop-rest.rest.now (tokens_at c.args.text.now) some c.loop-rest.invariant.in_range c.loop-rest.invariant.so_far c.in-Some.kind c.in_ok-kind.after.now e);
    }

pub loop-rest-smaller : goal.loop-rest-smaller
loop-rest-smaller c =
    element_shrinks c.loop-rest.rest.now c.in_ok-kind.kind c.in_ok-kind.after.now (some_left (length c.loop-rest.rest.now) c.loop-rest-test.ensures) c.in_ok-kind.ensures

pub loop-rest-preserved : goal.loop-rest-preserved
loop-rest-preserved c =
    let some : 0 < length c.loop-rest.rest.now = some_left (length c.loop-rest.rest.now) c.loop-rest-test.ensures in
    let shorter = element_shrinks c.loop-rest.rest.now c.in_ok-kind.kind c.in_ok-kind.after.now some c.in_ok-kind.ensures in
    let e = rw c.in_default.is at c.in_ok-kind.ensures in
    record {
      in_range = omega arith;
      so_far = gap_goes_on (length c.args.text.now) c.loop-rest.tokens.items c.loop-rest.rest.now (tokens_at c.args.text.now) some c.loop-rest.invariant.in_range c.loop-rest.invariant.so_far c.in_ok-kind.after.now e;
    }

pub returns : goal.returns
returns c =
    let none = none_left (length c.loop-rest.rest.now) c.loop-rest-test.ensures in
    rw c.in_ok-push-2.ensures.items (is_done (length c.args.text.now) c.loop-rest.tokens.items c.loop-rest.rest.now (tokens_at c.args.text.now) none c.loop-rest.invariant.so_far)
