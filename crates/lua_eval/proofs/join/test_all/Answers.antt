use Rattle.std.proofs.Common.{◌≡◌, ◌<◌, ◌+◌, ◌-◌, length, map, drop, get_or, subst, ◌∙◌, arith}
use Rattle.std.proofs.lemmas.Option.{slice_get-get_or}
use Rattle.std.proofs.lemmas.Result.{err_from_is_err_and}
use Rattle.lua_value.specs.View.{datum}
use Rattle.lua_eval.specs.Texts.{IsJoined}
use Rattle.lua_eval.proofs.Joined.{joined_at, fault_at, datum_at, length_seen}
use Rattle.lua_eval.proofs.join.test_all.Goals as goal

pub loop-at-preserved : goal.loop-at-preserved
loop-at-preserved c =
    let values = c.args.values.now in
    let places = c.args.operators.now in
    let n = c.loop-at.at - 1 in
    let between : length (map datum values) ≡ length places + 1 = length_seen values ∙ c.requires in
    let within : n < length places = omega arith in
    let right_within : n + 1 < length values = omega arith in
    let left_within : n < length values = omega arith in
    record {
      within = omega arith;
      joined = joined_at (map datum values) places n c.loop-at.at (datum c.index-values-at.result) (datum c.index-values-at-in-loop-at.result) (get_or places n 0)
          between (omega arith)
          (datum_at values n _ left_within c.index-values-at.is)
          (datum_at values (n + 1) _ right_within c.index-values-at-in-loop-at.is)
          (slice_get-get_or places n 0 within)
          c.in_ok-test_two.ensures
          c.loop-at.invariant.joined;
    }

pub returns-in_err-test_two : goal.returns-in_err-test_two
returns-in_err-test_two c =
    let values = c.args.values.now in
    let places = c.args.operators.now in
    let n = c.loop-at.at - 1 in
    let between : length (map datum values) ≡ length places + 1 = length_seen values ∙ c.requires in
    let within : n < length places = omega arith in
    let right_within : n + 1 < length values = omega arith in
    let left_within : n < length values = omega arith in
    let p = err_from_is_err_and c.from_residual.result c.from_residual.ensures.1 in
    rw (p.1, p.2) (fault_at (map datum values) places n c.loop-at.at (datum c.index-values-at.result) (datum c.index-values-at-in-loop-at.result) (get_or places n 0) _
    between (omega arith)
    (datum_at values n _ left_within c.index-values-at.is)
    (datum_at values (n + 1) _ right_within c.index-values-at-in-loop-at.is)
    (slice_get-get_or places n 0 within)
    c.in_err-test_two.ensures
    c.loop-at.invariant.joined)

pub returns : goal.returns
returns c =
    let none : c.loop-at.at ≡ 0 = omega arith in
    subst (λ k. IsJoined (drop k (map datum c.args.values.now)) (drop k c.args.operators.now)) none c.loop-at.invariant.joined
