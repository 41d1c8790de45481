use Rattle.std.proofs.Common.{sym}
use Rattle.std.proofs.lemmas.Result.{IfOk-weaker}
use Rattle.rock_folders.proofs.RecordTests.{is_one, none_named, too_many}
use Rattle.rock_folders.proofs.recorded.is_record_of.Goals as goal

pub returns-then-not-has_file : goal.returns-then-not-has_file
returns-then-not-has_file c = none_named c.args.key.now c.args.whole.now c.in_ok-rockspec.rockspec c.in_ok-rockspec.ensures (sym c.if-not-has_file.ensures)

pub returns-then-not-has_few_files : goal.returns-then-not-has_few_files
returns-then-not-has_few_files c = too_many c.args.key.now c.args.whole.now c.in_ok-rockspec.rockspec c.in_ok-rockspec.ensures (sym c.if-not-has_few_files.ensures)

pub returns : goal.returns
returns c = IfOk-weaker c.stand_apart.result _ _ (λ apart tells. is_one c.args.key.now c.args.whole.now c.requires c.as_str-name.ensures.valid c.as_str-version.ensures.valid
    c.in_ok-rockspec.rockspec c.in_ok-rockspec.ensures (sym c.if-not-has_file.ensures) (sym c.if-not-has_few_files.ensures) apart tells) c.stand_apart.ensures
