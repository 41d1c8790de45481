use Rattle.std.proofs.Common.{sym}
use Rattle.std.proofs.lemmas.Result.{IfOk-weaker}
use Rattle.rock_folders.specs.Found.{IsKeyAt}
use Rattle.rock_folders.proofs.KeyPaths.{below_is, key_at, other_file, outside, unnamed, unversioned}
use Rattle.rock_folders.proofs.finding.found_key.Goals.{in_default-split_once-2-via-in-Some-split_once-2+else-eq, in_default-split_once-2-via-in_default-split_once-2}
use Rattle.rock_folders.proofs.finding.found_key.Goals as goal

pub returns-in_default : goal.returns-in_default
returns-in_default c = outside c.args.path.now c.as_str.result.now c.as_str.ensures.value c.in_default.ensures.cases

pub returns-in_default-split_once : goal.returns-in_default-split_once
returns-in_default-split_once c =
    let is = below_is c.args.path.now c.as_str.result.now c.in-Some.below.now c.as_str.ensures.value c.in-Some.ensures.cases in
    unnamed c.args.path.now c.in-Some.below.now is c.in_default-split_once.ensures.cases

pub returns-in-Some-split_once-2 : goal.returns-in-Some-split_once-2
returns-in-Some-split_once-2 c =
    let is = below_is c.args.path.now c.as_str.result.now c.in-Some.below.now c.as_str.ensures.value c.in-Some.ensures.cases in
    IfOk-weaker c.key_from.result _ (IsKeyAt c.args.path.now) (λ found is_found.
    key_at c.args.path.now c.in-Some.below.now is c.in-Some-split_once.name c.in-Some-split_once.behind c.in-Some-split_once.ensures.cases
    c.in-Some-split_once-2.version c.in-Some-split_once-2.file c.in-Some-split_once-2.ensures.cases (sym c.if-eq.ensures) found is_found) c.key_from.ensures

pub returns-in_default-split_once-2 : goal.returns-in_default-split_once-2
returns-in_default-split_once-2 c =
    let is = below_is c.args.path.now c.as_str.result.now c.in-Some.below.now c.as_str.ensures.value c.in-Some.ensures.cases in
    elim c.in_default-split_once-2.branch [
      | in_default-split_once-2-via-in-Some-split_once-2+else-eq w ↦
          other_file c.args.path.now c.in-Some.below.now is c.in-Some-split_once.name c.in-Some-split_once.behind c.in-Some-split_once.ensures.cases
          w.in-Some-split_once-2.version w.in-Some-split_once-2.file w.in-Some-split_once-2.ensures.cases (sym w.if-eq.ensures)
      | in_default-split_once-2-via-in_default-split_once-2 w ↦
          unversioned c.args.path.now c.in-Some.below.now is c.in-Some-split_once.name c.in-Some-split_once.behind c.in-Some-split_once.ensures.cases
          w.in_default-split_once-2.ensures.cases
    ]
