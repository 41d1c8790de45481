use Rattle.std.proofs.Common.{◌∙◌, arith}
use Rattle.rockspec_table.proofs.BadFields.{first_bad, none_more, none_at_all}
use Rattle.rockspec_table.proofs.platforms.check_platforms.Goals as goal

pub returns-then-branch-clause-err : goal.returns-then-branch-clause-err
returns-then-branch-clause-err c =
    let l = c.loop-name in
    let are = c.platform_fields-name-items.ensures in
    rw (c.from-field.ensures ∙ c.in_ok-from_slice.ensures.items ∙ c.as_bytes.ensures.value)
    (first_bad c.args.globals.now _ are l.name-index _ (omega arith) l.invariant
    (c.in_ok-is_bad_field.ensures.0 c.if-branch.true))

pub loop-name-preserved : goal.loop-name-preserved
loop-name-preserved c =
    let l = c.loop-name in
    let are = c.platform_fields-name-items.ensures in
    none_more c.args.globals.now _ are l.name-index _ (omega arith) l.invariant
    (λ bad. let found = c.in_ok-is_bad_field.ensures.1 bad in let other = c.if-branch.false in cc)

pub returns-clause-ok : goal.returns-clause-ok
returns-clause-ok c =
    let l = c.loop-name in
    none_at_all c.args.globals.now _ c.platform_fields-name-items.ensures l.name-index (omega arith) l.invariant
