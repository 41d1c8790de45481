use Rattle.lua_value.specs.View.{datum}
use Rattle.schema_table.specs.Paths.{referents}
use Rattle.schema_table.proofs.Placed.{too_new, misshapen, faultless_at, gone_into, opened_of, row_is}
use Rattle.schema_table.proofs.visits.check_value.Goals as goal

pub returns-then-is_older-clause-err : goal.returns-then-is_older-clause-err
returns-then-is_older-clause-err c =
    let is_row = row_is c.args.rows.now (referents c.args.path.now) c.in-Some.number _ c.in-Some.ensures.value
    c.in-Some.ensures.within in
    too_new c.args.rows.now (referents c.args.path.now) c.in-Some.number _ is_row c.args.format
    (c.is_older.ensures.0 c.if-is_older.true)

pub returns-then-not-has_shape-clause-err : goal.returns-then-not-has_shape-clause-err
returns-then-not-has_shape-clause-err c =
    let is_row = row_is c.args.rows.now (referents c.args.path.now) c.in-Some.number _ c.in-Some.ensures.value
    c.in-Some.ensures.within in
    misshapen c.args.rows.now (referents c.args.path.now) c.in-Some.number _ is_row c.args.format
    (datum c.args.value.now) (λ older. let e = c.is_older.ensures.1 older in cc) (λ shape. let e =
    c.has_shape.ensures.1 shape in cc)

pub returns-clause-ok : goal.returns-clause-ok
returns-clause-ok c =
    let is_row = row_is c.args.rows.now (referents c.args.path.now) c.in-Some.number _ c.in-Some.ensures.value
    c.in-Some.ensures.within in
    faultless_at c.args.rows.now (referents c.args.path.now) c.in-Some.number _ is_row c.args.format
    (datum c.args.value.now) (λ older. let e = c.is_older.ensures.1 older in cc)
    (c.has_shape.ensures.0 c.if-not-has_shape.false)

pub returns-clause-enters : goal.returns-clause-enters
returns-clause-enters c =
    let is_row = row_is c.args.rows.now (referents c.args.path.now) c.in-Some.number _ c.in-Some.ensures.value
    c.in-Some.ensures.within in (
      λ e. gone_into c.args.rows.now (referents c.args.path.now) c.in-Some.number _ is_row (c.is_opened.ensures.0 e),
      λ g. c.is_opened.ensures.1 (opened_of c.args.rows.now (referents c.args.path.now) c.in-Some.number _ is_row g),
    )
