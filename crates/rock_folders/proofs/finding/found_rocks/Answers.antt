use Rattle.std.proofs.Common.{ap, sym, ◌∙◌, ◌++◌, append-nil, Option}
use Rattle.rocks_version.specs.declared.key.RockKey.{RockKey}
use Rattle.std.specs.Option.{option_to_list}
use Rattle.std.specs.Global.{Vec}
use Rattle.rock_folders.proofs.Appending.{found_next}
use Rattle.rock_folders.proofs.finding.found_rocks.Goals.{in-Some+in_ok-push, in_default}
use Rattle.rock_folders.proofs.finding.found_rocks.Goals as goal

pub loop-path-preserved : goal.loop-path-preserved
loop-path-preserved c =
    found_next c.args.paths.now c.loop-path.path-index c.path-item.result c.loop-path.keys.items c.in_ok-key.field-0 c.match-branch-2.keys.items
    c.loop-path-test.true c.path-item.is c.loop-path.invariant c.in_ok-key.ensures
    (elim c.match-branch-2.branch [
      | in-Some+in_ok-push w ↦ ap (λ (k : Vec RockKey). k.items) w.keys-is ∙ w.in_ok-push.ensures.items ∙ ap (λ (o : Option RockKey). c.loop-path.keys.items ++ option_to_list o) (sym w.in-Some.is)
      | in_default w ↦ ap (λ (k : Vec RockKey). k.items) w.keys-is ∙ sym (append-nil c.loop-path.keys.items) ∙ ap (λ (o : Option RockKey). c.loop-path.keys.items ++ option_to_list o) (sym w.in_default.is)
    ])
