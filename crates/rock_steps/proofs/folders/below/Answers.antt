use Rattle.std.proofs.Common.{refl, sym, lit<}
use Rattle.std.proofs.lemmas.Str.Pattern.{strip_prefix_char}
use Rattle.rocks_text.proofs.Below.{none_from_strip, rest_from_strip, rest_is_valid, strip_front}
use Rattle.rock_steps.proofs.folders.below.Goals as goal

pub returns-in_err-strip_prefix-clause-rest : goal.returns-in_err-strip_prefix-clause-rest
returns-in_err-strip_prefix-clause-rest c =
    rw c.from_residual.ensures (sym (none_from_strip c.args.folder.now c.args.path.now c.args.folder.now c.as_str.result.now refl c.as_str.ensures.value c.in_err-strip_prefix.ensures.cases))

pub returns-clause-rest : goal.returns-clause-rest
returns-clause-rest c =
    let whole = strip_front c.args.folder.now c.args.path.now c.args.folder.now c.as_str.result.now c.in_ok-strip_prefix.field-0.now refl c.as_str.ensures.value c.in_ok-strip_prefix.ensures.cases in
    rest_from_strip c.args.folder.now c.args.path.now c.in_ok-strip_prefix.field-0.now c.strip_prefix-2.result whole
    (strip_prefix_char 47 c.in_ok-strip_prefix.field-0.now c.strip_prefix-2.result c.strip_prefix-2.ensures.cases (lit< tt))

pub returns-clause-valid : goal.returns-clause-valid
returns-clause-valid c =
    let whole = strip_front c.args.folder.now c.args.path.now c.args.folder.now c.as_str.result.now c.in_ok-strip_prefix.field-0.now refl c.as_str.ensures.value c.in_ok-strip_prefix.ensures.cases in
    rest_is_valid c.args.folder.now c.args.path.now c.in_ok-strip_prefix.field-0.now c.strip_prefix-2.result whole
    (strip_prefix_char 47 c.in_ok-strip_prefix.field-0.now c.strip_prefix-2.result c.strip_prefix-2.ensures.cases (lit< tt)) c.as_str.ensures.valid
