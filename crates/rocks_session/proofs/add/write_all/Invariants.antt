use Rattle.std.proofs.Common.{◌≡◌, ◌≤◌, ◌+◌, IfSome, drop, map}
use Rattle.rocks_outside.specs.Told.{WhereTold}
use Rattle.tree_model.specs.Tree.{file_at}
use Rattle.rocks_session.specs.Installing.{put_all}
use Rattle.rocks_session.proofs.add.write_all.Given as goal

-- the files so far, with what is left put over them, are those with all put over the first
abbrev pub invariant-loop-file : goal.invariant-loop-file
invariant-loop-file g l =
    let first = g.V.Device.state l.fn.device in
    let now = g.V.Device.state l.device in
    record {
      files : WhereTold (λ before after. put_all (map file_at (drop l.file-index l.files)) after ≡ put_all (map file_at l.files) before) first.files now.files;
      ticked : IfSome first.files (λ _. now.clock ≡ first.clock + l.file-index);
      clock : first.clock ≤ now.clock;
      said : now.said ≡ first.said;
      faults : first.faults ≤ now.faults;
    }
