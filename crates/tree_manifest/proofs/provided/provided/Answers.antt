use Rattle.std.proofs.Common.{◌≡◌, ℕ, List, ◌++◌, ap, subst, sym, ◌∙◌, append-nil, Some}
use Rattle.std.specs.Option.{option_to_list}
use Rattle.manifest_text.specs.Views.{IsPath}
use Rattle.rock_manifest.proofs.Pieces.{path_bytes}
use Rattle.rocks_version.specs.declared.key.RockKey.{RockKey}
use Rattle.tree_manifest.specs.declared.groups.Group.{Group}
use Rattle.tree_manifest.specs.Forms.{path_group}
use Rattle.tree_manifest.specs.Reading.{key_of}
use Rattle.tree_manifest.proofs.Parts.{opening_again}
use Rattle.tree_manifest.proofs.Turns.{all_provided, at_end, provided_all, provided_valid, turn, with_keys, IsProvided}
use Rattle.tree_manifest.proofs.provided.provided.Goals.{in-Some+in_ok-push, in_default}
use Rattle.tree_manifest.proofs.provided.provided.Goals as goal

pub loop-group-preserved : goal.loop-group-preserved
loop-group-preserved c =
    let found = c.loop-group.found in
    let rocks = c.in_ok-rocks.rocks in
    let o = c.in_ok-path-2.field-0 in
    let finds : (path : List ℕ × List RockKey) → IsProvided path → c.group-item.result ≡ path_group path
    → with_keys rocks o ≡ Some path =
    λ path is same.
    let keys = c.in_ok-rocks.ensures.known path.1 is.1 (c.as_slice.ensures ∙ ap (λ (g : Group). g.texts) same) in
    let bytes = c.deref.ensures.value ∙ c.in_ok-path.ensures
    ∙ ap key_of (c.as_slice-in-loop-group.ensures ∙ ap (λ (g : Group). g.head) same)
    ∙ opening_again path.0 (path_bytes path.0 is.0.0) in
    let hit = c.in_ok-path-2.ensures.known (subst IsPath (sym bytes) is.0) ∙ ap Some bytes in
    ap (with_keys rocks) hit ∙ ap (λ (l : List RockKey). Some (path.0, l)) keys in
    let grown : c.match-branch-4.found ≡ found ++ option_to_list (with_keys rocks o) =
    elim c.match-branch-4.branch [
      | in-Some+in_ok-push w ↦ w.found-is ∙ w.in_ok-push.ensures.ok
          ∙ sym (ap (λ p. found ++ option_to_list (with_keys rocks p)) w.in-Some.is)
      | in_default w ↦ w.found-is ∙ sym (append-nil found)
          ∙ sym (ap (λ p. found ++ option_to_list (with_keys rocks p)) w.in_default.is)
    ] in
    turn path_group IsProvided c.args.groups.now c.loop-group.group-index c.group-item.result found
    c.match-branch-4.found (with_keys rocks o) c.loop-group.invariant c.loop-group-test.true c.group-item.is
    (provided_valid o rocks c.in_ok-path-2.ensures.valid c.in_ok-rocks.ensures.valid) finds grown

pub returns-clause-valid : goal.returns-clause-valid
returns-clause-valid c = provided_all c.loop-group.found c.loop-group.invariant.valid

pub returns-clause-known : goal.returns-clause-known
returns-clause-known c paths are same =
    at_end path_group IsProvided c.args.groups.now c.loop-group.group-index c.loop-group.found c.loop-group.invariant
    c.loop-group-test.false paths (all_provided paths are) same
