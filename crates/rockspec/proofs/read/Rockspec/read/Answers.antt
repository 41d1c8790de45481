use Rattle.std.proofs.Common.{arith, subst}
use Rattle.std.proofs.lemmas.Result.{err_from_is_err_and}
use Rattle.lua_text.specs.Outcomes.{HasOutcome}
use Rattle.rockspec.proofs.Firsts.{first_if_err, spec_if_ok, table_first}
use Rattle.rockspec.proofs.read.Rockspec.read.Goals as goal

pub returns-in_err-read_fields-in-Ok-clause-fault : goal.returns-in_err-read_fields-in-Ok-clause-fault
returns-in_err-read_fields-in-Ok-clause-fault c =
    let read = subst (HasOutcome c.args.bytes.now) c.in-Ok.is c.in_ok-globals.ensures.read in
    let p = err_from_is_err_and c.from_residual-in_err-read_fields-in-Ok.result c.from_residual-in_err-read_fields-in-Ok.ensures.1 in
    rw (p.1, p.2) (table_first c.args.bytes.now c.in-Ok.globals (omega (arith, c.if-bytes.false)) read
    c.in_err-read_fields-in-Ok.field-0.0 c.in_err-read_fields-in-Ok.ensures.fault)

pub returns-in_ok-read_fields-in-Ok-clause-spec : goal.returns-in_ok-read_fields-in-Ok-clause-spec
returns-in_ok-read_fields-in-Ok-clause-spec c =
    let read = subst (HasOutcome c.args.bytes.now) c.in-Ok.is c.in_ok-globals.ensures.read in
    let found = c.in_ok-read_fields-in-Ok.field-0 in
    spec_if_ok c.args.bytes.now c.in-Ok.globals (omega (arith, c.if-bytes.false)) read found.format found.table
    c.in_ok-read_fields-in-Ok.ensures.value c.from_fields.result c.from_fields.ensures.says c.from_fields.ensures.faultless

pub returns-in_ok-read_fields-in-Ok-clause-fault : goal.returns-in_ok-read_fields-in-Ok-clause-fault
returns-in_ok-read_fields-in-Ok-clause-fault c =
    let read = subst (HasOutcome c.args.bytes.now) c.in-Ok.is c.in_ok-globals.ensures.read in
    let found = c.in_ok-read_fields-in-Ok.field-0 in
    first_if_err c.args.bytes.now c.in-Ok.globals (omega (arith, c.if-bytes.false)) read found.format found.table
    c.in_ok-read_fields-in-Ok.ensures.value c.from_fields.result c.from_fields.ensures.fault
