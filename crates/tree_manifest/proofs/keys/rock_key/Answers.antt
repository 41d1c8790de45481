use Rattle.std.proofs.Common.{ℕ, List, ◌+◌, ◌++◌, ap, ◌∙◌, arith, codes, length, length-append, not, take, ◌==◌}
use Rattle.std.specs.Prelude.{slice_range}
use Rattle.std.specs.List.{prefix_len}
use Rattle.std.proofs.lemmas.Result.{IfOk-weaker}
use Rattle.tree_manifest.proofs.Parts.{name_before, slash_at, version_last}
use Rattle.tree_manifest.proofs.keys.rock_key.Goals as goal

pub returns-then-front-bytes-clause-known : goal.returns-then-front-bytes-clause-known
returns-then-front-bytes-clause-known c key is same =
    let at = c.before_slash-front.ensures.value ∙ ap (prefix_len (λ b. not (b == 47))) same ∙ slash_at key is in
    let size = ap length same in
    absurd (omega (arith, length-append key.name (codes "/" ++ key.version), length-append (codes "/") key.version))

pub returns-clause-known : goal.returns-clause-known
returns-clause-known c = IfOk-weaker c.rock_of.result _ _ (λ found known key is same.
    let front = c.before_slash-front.result in
    let at = c.before_slash-front.ensures.value ∙ ap (prefix_len (λ b. not (b == 47))) same ∙ slash_at key is in
    known key is
    (ap (take front) same ∙ name_before key front at)
    (ap (λ (l : List ℕ). slice_range l (front + 1) (length l)) same ∙ version_last key front at)) c.rock_of.ensures.known
