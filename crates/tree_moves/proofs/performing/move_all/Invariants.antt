use Rattle.std.proofs.Common.{◌≡◌, ◌≤◌, ◌+◌, IfSome, drop}
use Rattle.rocks_outside.specs.Told.{WhereTold}
use Rattle.tree_moves.specs.Moves.{moved}
use Rattle.tree_moves.proofs.performing.move_all.Given as goal

-- what is left, done to the files so far, makes what all does to the first ones
abbrev pub invariant-loop-one : goal.invariant-loop-one
invariant-loop-one g l =
    let first = g.V.Device.state l.fn.device in
    let now = g.V.Device.state l.device in
    record {
      files : WhereTold (λ before after. moved (drop l.one-index l.moves) after ≡ moved l.moves before) first.files now.files;
      ticked : IfSome first.files (λ _. now.clock ≡ first.clock + l.one-index);
      clock : first.clock ≤ now.clock;
      said : now.said ≡ first.said;
      faults : first.faults ≤ now.faults;
    }
