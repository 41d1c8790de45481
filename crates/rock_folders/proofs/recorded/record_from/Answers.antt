use Rattle.rock_folders.proofs.RecordTests.{none_other}
use Rattle.rock_folders.proofs.recorded.record_from.Goals as goal

pub returns-in-Ok-2 : goal.returns-in-Ok-2
returns-in-Ok-2 c =
    none_other c.args.key.now c.args.bytes.now c.in-Ok.whole c.in_ok-is_record_of.field-0 c.in-Ok.ensures.valid c.in-Ok.ensures.text c.in_ok-is_record_of.ensures c.if-branch.false
