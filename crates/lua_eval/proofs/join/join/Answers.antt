use Rattle.std.proofs.Common.{◌≡◌, ◌<◌, ◌-◌, min, length, MatchResult, Ok, subst, arith}
use Rattle.lua_value.specs.View.{datum}
use Rattle.lua_eval.specs.Finding.{IsFaultOf}
use Rattle.lua_eval.proofs.Joined.{join_of_taken}
use Rattle.lua_eval.proofs.join.join.Goals as goal

pub returns-clause-joined : goal.returns-clause-joined
returns-clause-joined c =
    let values = c.args.values.items in
    let places = c.args.operators.now in
    let n = c.min-count.result in
    let is : n ≡ min (length places) (length values - 1) = omega (arith, c.min-count.ensures) in
    let some : 0 < length values = omega arith in
    let same = join_of_taken values c.deref.result.now places n is some c.deref.ensures.value in
    subst (λ r. MatchResult c.join_all.result (λ whole. r ≡ Ok (datum whole)) (IsFaultOf r)) same c.join_all.ensures.joined
