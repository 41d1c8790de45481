use Rattle.schema_table.proofs.Missed.{missing_at, none_more, none_at_all}
use Rattle.schema_table.proofs.absence.first_missing.Goals as goal

pub returns-then-is_missing : goal.returns-then-is_missing
returns-then-is_missing c =
    let missing = c.is_missing.ensures.0 c.if-is_missing.true in
    let rows = c.args.rows.now in (
      c.loop-number-test.true,
      missing_at rows c.args.table.now c.args.format c.loop-number.number _ c.loop-number-test.true missing,
      c.loop-number.invariant,
    )

pub loop-number-preserved : goal.loop-number-preserved
loop-number-preserved c =
    none_more c.args.rows.now c.args.table.now c.args.format c.loop-number.number _ c.loop-number.invariant
    (λ missing. let found = c.is_missing.ensures.1 missing in cc)

pub returns : goal.returns
returns c = none_at_all c.args.rows.now c.args.table.now c.args.format c.loop-number.number c.loop-number-test.false
    c.loop-number.invariant
