use Rattle.std.proofs.Common.{◌≡◌, ◌≤◌, ◌+◌, IfSome, drop}
use Rattle.rocks_outside.specs.Told.{WhereTold}
use Rattle.tree_moves.specs.Moves.{staged_in}
use Rattle.tree_moves.proofs.performing.stage.Given as goal

-- what is left, done to the files so far, makes what all does to the first ones
abbrev pub invariant-loop-file : goal.invariant-loop-file
invariant-loop-file g l =
    let first = g.V.Device.state l.fn.device in
    let now = g.V.Device.state l.device in
    record {
      files : WhereTold (λ before after. staged_in (drop l.file-index l.staged) after ≡ staged_in l.staged before) first.files now.files;
      ticked : IfSome first.files (λ _. now.clock ≡ first.clock + l.file-index);
      clock : first.clock ≤ now.clock;
      said : now.said ≡ first.said;
      faults : first.faults ≤ now.faults;
    }
