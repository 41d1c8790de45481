use Rattle.std.proofs.Common.{◌≡◌, List, ◌++◌, ap, sym, ◌∙◌, append-nil, Some}
use Rattle.std.specs.Option.{option_to_list}
use Rattle.manifest_text.specs.declared.view.ViewRock.{ViewRock}
use Rattle.tree_manifest.specs.declared.groups.Group.{Group}
use Rattle.tree_manifest.specs.Forms.{rock_group}
use Rattle.tree_manifest.specs.Reading.{key_of}
use Rattle.tree_manifest.proofs.Decoded.{name_again, version_again}
use Rattle.tree_manifest.proofs.Nth.{Need}
use Rattle.tree_manifest.proofs.Turns.{all_rocks, at_end, rock_valid, rocks_all, turn, with_needs, IsRockView}
use Rattle.tree_manifest.proofs.rocks.rocks.Goals.{in-Some+in_ok-push, in_default}
use Rattle.tree_manifest.proofs.rocks.rocks.Goals as goal

pub loop-group-preserved : goal.loop-group-preserved
loop-group-preserved c =
    let found = c.loop-group.found.items in
    let needs = c.in_ok-dependencies.dependencies in
    let o = c.in_ok-key.field-0 in
    let finds : (rock : ViewRock) → IsRockView rock → c.group-item.result ≡ rock_group rock
    → with_needs needs o ≡ Some rock =
    λ rock is same.
    let name = c.deref.ensures.value ∙ c.in_ok-name.ensures
    ∙ ap key_of (c.as_slice.ensures ∙ ap (λ (g : Group). g.outer) same) ∙ name_again rock.key is.0 in
    let version = c.deref-in-loop-group.ensures.value ∙ c.in_ok-version.ensures
    ∙ ap key_of (c.as_slice-in-loop-group.ensures ∙ ap (λ (g : Group). g.head) same)
    ∙ version_again rock.key rock.dependencies is.0 in
    let all = c.in_ok-dependencies.ensures.known rock.dependencies is.1
    (c.as_slice-in-loop-group-2.ensures ∙ ap (λ (g : Group). g.texts) same) in
    ap (with_needs needs) (c.in_ok-key.ensures.known rock.key is.0 name version)
    ∙ ap (λ (l : List Need). Some (record { key = rock.key; dependencies = l })) all in
    let grown : c.match-branch-5.found.items ≡ found ++ option_to_list (with_needs needs o) =
    elim c.match-branch-5.branch [
      | in-Some+in_ok-push w ↦ ap (λ v. v.items) w.found-is ∙ w.in_ok-push.ensures.items
          ∙ sym (ap (λ p. found ++ option_to_list (with_needs needs p)) w.in-Some.is)
      | in_default w ↦ ap (λ v. v.items) w.found-is ∙ sym (append-nil found)
          ∙ sym (ap (λ p. found ++ option_to_list (with_needs needs p)) w.in_default.is)
    ] in
    turn rock_group IsRockView c.args.groups.now c.loop-group.group-index c.group-item.result found
    c.match-branch-5.found.items (with_needs needs o) c.loop-group.invariant c.loop-group-test.true c.group-item.is
    (rock_valid o needs c.in_ok-key.ensures.valid c.in_ok-dependencies.ensures.valid) finds grown

pub returns-clause-valid : goal.returns-clause-valid
returns-clause-valid c = rocks_all c.loop-group.found.items c.loop-group.invariant.valid

pub returns-clause-known : goal.returns-clause-known
returns-clause-known c rocks are same =
    at_end rock_group IsRockView c.args.groups.now c.loop-group.group-index c.loop-group.found.items
    c.loop-group.invariant c.loop-group-test.false rocks (all_rocks rocks are) same
