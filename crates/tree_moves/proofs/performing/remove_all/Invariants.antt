use Rattle.std.proofs.Common.{◌≡◌, ◌≤◌, ◌+◌, IfSome, drop}
use Rattle.rocks_outside.specs.Told.{WhereTold}
use Rattle.tree_moves.specs.Performing.{removed_all}
use Rattle.tree_moves.proofs.performing.remove_all.Given as goal

-- what is left, done to the files so far, makes what all does to the first ones
abbrev pub invariant-loop-path : goal.invariant-loop-path
invariant-loop-path g l =
    let first = g.V.Device.state l.fn.device in
    let now = g.V.Device.state l.device in
    record {
      files : WhereTold (λ before after. removed_all (drop l.path-index l.paths) after ≡ removed_all l.paths before) first.files now.files;
      ticked : IfSome first.files (λ _. now.clock ≡ first.clock + l.path-index);
      clock : first.clock ≤ now.clock;
      said : now.said ≡ first.said;
      faults : first.faults ≤ now.faults;
    }
