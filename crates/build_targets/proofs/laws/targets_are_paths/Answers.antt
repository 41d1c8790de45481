use Rattle.std.specs.Prelude.{IsTrue}
use Rattle.std.proofs.lemmas.Result.{IfOk-weaker}
use Rattle.build_targets.specs.Meanings.{is_path, meaning_at}
use Rattle.build_targets.specs.Places.{path_of}
use Rattle.build_targets.proofs.Standing.{Stands, meaning_stands}
use Rattle.build_targets.proofs.laws.targets_are_paths.Goals as goal

pub returns-clause-from : goal.returns-clause-from
returns-clause-from c =
    IfOk-weaker (meaning_at c.args.listing c.args.key.now c.args.file.now) Stands (λ target. IsTrue (is_path target.from))
    (λ _ stands. stands.0) (meaning_stands c.args.listing c.args.key.now c.args.file.now)

pub returns-clause-to : goal.returns-clause-to
returns-clause-to c =
    IfOk-weaker (meaning_at c.args.listing c.args.key.now c.args.file.now) Stands (λ target. IsTrue (is_path (path_of target.to)))
    (λ _ stands. stands.1) (meaning_stands c.args.listing c.args.key.now c.args.file.now)
